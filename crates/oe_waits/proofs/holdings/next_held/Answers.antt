use Rattle.std.proofs.Common.{◌+◌, take, option_map, sym, ap, ◌∙◌, subst, arith}
use Rattle.oe_waits.specs.Names.{is_before, is_left, lesser}
use Rattle.oe_waits.proofs.HeldFacts.{IsBest, best_all, best_more, left_listed, not_left}
use Rattle.oe_waits.proofs.holdings.next_held.Goals as goal

pub loop-name-preserved : goal.loop-name-preserved
loop-name-preserved g c =
    let w = g.M.Machine.world c.args.core.now in
    let f = is_left w c.args.holder c.args.behind.now.items in
    let best = option_map (λ n. n.now) c.loop-name.least in
    let left = left_listed w c.args.holder c.args.behind.now.items c.names-names.result.now c.names-names.ensures.held
    c.loop-name.name-index c.name-item.result c.name-item.is (omega arith) in
    subst (IsBest f (take (c.loop-name.name-index + 1) c.names-names.result.now))
    (ap (λ b. lesser best c.name-item.result b)
    (sym left ∙ sym (c.is_before.ensures ∙ ap (is_before c.args.behind.now.items) c.place.ensures.value))
    ∙ sym c.lesser-least.ensures)
    (best_more f c.names-names.result.now c.loop-name.name-index c.name-item.result best c.name-item.is (omega arith)
    c.loop-name.invariant)

pub returns : goal.returns
returns g c =
    best_all (is_left (g.M.Machine.world c.args.core.now) c.args.holder c.args.behind.now.items)
    c.names-names.result.now
    c.loop-name.name-index (option_map (λ n. n.now) c.loop-name.least) (omega arith) c.loop-name.invariant
    (not_left (g.M.Machine.world c.args.core.now) c.args.holder c.args.behind.now.items c.names-names.result.now
    c.names-names.ensures.held)
