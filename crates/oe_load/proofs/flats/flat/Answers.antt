use Rattle.std.proofs.Common.{◌≡◌, ap, ◌∙◌, rules}
use Rattle.oe_terms.specs.Draws.{words_of}
use Rattle.oe_load.specs.Turns.{counts_of}
use Rattle.oe_load.specs.declared.turns.Shortage.TheVariants.{NoEnd}
use Rattle.oe_load.proofs.FlatFacts.{at_first, one_more, ends_served, ends_short, ends_there, ends_cut}
use Rattle.oe_load.proofs.flats.flat.Goals as goal

pub loop-init : goal.loop-init
loop-init g c = λ o opening.
    let last : c.unwrap.result ≡ 64 = search rules in
    at_first c.args.plan.now o (g.W.Outlet.sink c.args.to.now) c.args.out.now.items
    (counts_of c.none_served-served.result) c.words-words.result opening c.none_served-served.ensures
    (c.words-words.ensures ∙ ap (words_of c.args.plan.now.numbers.seed) last)

pub returns-then-are_served : goal.returns-then-are_served
returns-then-are_served g c = λ o opening.
    ends_served c.args.plan.now o (g.W.Outlet.sink c.args.to.now)
    (g.W.Outlet.sink c.loop.to)
    c.loop.out.items (counts_of c.loop.served) c.loop.words (c.loop.invariant o opening)
    (c.are_served.ensures c.if-are_served.true)

pub returns-in-Err : goal.returns-in-Err
returns-in-Err g c = λ o opening.
    ends_cut c.args.plan.now o (g.W.Outlet.sink c.args.to.now) (g.W.Outlet.sink c.loop.to)
    (g.W.Outlet.sink c.make_room.new.to) c.loop.out.items c.make_room.new.out.items (counts_of c.loop.served)
    c.loop.words _ (c.loop.invariant o opening) c.in-Err.ensures.stream

pub returns-in-Err-sent : goal.returns-in-Err-sent
returns-in-Err-sent g c = λ o opening.
    ends_short c.args.plan.now o (g.W.Outlet.sink c.args.to.now) (g.W.Outlet.sink c.loop.to)
    (g.W.Outlet.sink c.make_room.new.to) c.loop.out.items c.make_room.new.out.items c.sent.new.out.items
    (counts_of c.loop.served) c.loop.words c.in-Err-sent.shortage (c.loop.invariant o opening)
    c.in_default.ensures.stream c.in-Err-sent.ensures

pub loop-preserved : goal.loop-preserved
loop-preserved g c = λ o opening.
    one_more c.args.plan.now o (g.W.Outlet.sink c.args.to.now) (g.W.Outlet.sink c.loop.to)
    (g.W.Outlet.sink c.make_room.new.to) c.loop.out.items c.make_room.new.out.items c.sent.new.out.items
    (counts_of c.loop.served) (counts_of c.sent.new.served) c.loop.words c.sent.new.words (c.loop.invariant o opening)
    c.in_default.ensures.stream c.in_default-sent.ensures

pub returns : goal.returns
returns g c = λ o opening.
    ends_there c.args.plan.now o (g.W.Outlet.sink c.args.to.now) (g.W.Outlet.sink c.loop.to) c.loop.out.items
    (counts_of c.loop.served) c.loop.words NoEnd (c.loop.invariant o opening)
