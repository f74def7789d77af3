use Rattle.std.proofs.Common.{◌≡◌, ◌+◌, [], length, sym, ap, ◌∙◌, subst, arith}
use Rattle.std.specs.List.{flat_map}
use Rattle.oe_io.specs.Ports.{Sent}
use Rattle.oe_io.proofs.Streaming.{sent_as, sent_none}
use Rattle.oe_waits.specs.Names.{place}
use Rattle.oe_waits.specs.Texts.{held_line}
use Rattle.oe_waits.proofs.HeldFacts.{all_shown, count_shown, cut_names, few_shown, line_went, none_shown, shown_lines}
use Rattle.oe_waits.proofs.HeldFacts.{shown_names}
use Rattle.oe_waits.proofs.holdings.all_of_one.Goals as goal

pub loop-name-init : goal.loop-name-init
loop-name-init g c =
    let w = g.M.Machine.world c.args.core.now in
    let to = g.W.Outlet.sink c.args.to.now in
    let out = c.args.out.now.items in
    let none = ap (shown_names w c.args.holder) c.new-behind.ensures ∙ none_shown w c.args.holder in (
      sent_as to to out out [] _ (sym (ap (flat_map (held_line w c.args.holder)) none)) (sent_none to out),
      sym (ap length none),
    )

pub loop-name-preserved : goal.loop-name-preserved
loop-name-preserved g c =
    let w = g.M.Machine.world c.args.core.now in
    let old = g.W.Outlet.sink c.args.to.now in
    let new = g.W.Outlet.sink c.make_room.new.to in
    subst (λ p. Sent old c.args.out.now.items new c.held.new.out.items (shown_lines w c.args.holder p)
    × (c.loop-name.count + 1 ≡ length (shown_names w c.args.holder p))) (sym c.place-behind.ensures.value) (
      line_went old (g.W.Outlet.sink c.loop-name.to) new c.args.out.now.items c.loop-name.out.items
          c.make_room.new.out.items c.held.new.out.items w c.args.holder c.loop-name.behind.items c.in-Some.name.now
          c.place-behind.ensures.ranges c.in-Some.ensures c.loop-name.invariant.0
          c.in_default-make_room.ensures.stream
          c.held.ensures,
      count_shown w c.args.holder c.loop-name.behind.items c.in-Some.name.now c.loop-name.count
          c.place-behind.ensures.ranges
          c.in-Some.ensures c.loop-name.invariant.1,
    )

pub loop-name-smaller : goal.loop-name-smaller
loop-name-smaller g c =
    let w = g.M.Machine.world c.args.core.now in
    let more = count_shown w c.args.holder c.loop-name.behind.items c.in-Some.name.now c.loop-name.count
    c.place-behind.ensures.ranges c.in-Some.ensures c.loop-name.invariant.1 in
    let few = few_shown w c.args.holder (place c.in-Some.name.now) in
    omega (arith, more, few, c.names_are_few.ensures)

pub overflow_add-count : goal.overflow_add-count
overflow_add-count g c =
    let few = few_shown (g.M.Machine.world c.args.core.now) c.args.holder c.loop-name.behind.items in
    omega (arith, c.loop-name.invariant.1, few, c.names_are_few.ensures)

pub returns-in-Err-clause-stream : goal.returns-in-Err-clause-stream
returns-in-Err-clause-stream g c =
    cut_names (g.W.Outlet.sink c.args.to.now) (g.W.Outlet.sink c.loop-name.to) (g.W.Outlet.sink c.make_room.new.to)
    c.args.out.now.items c.loop-name.out.items (g.M.Machine.world c.args.core.now) c.args.holder
    c.loop-name.behind.items
    c.loop-name.invariant.0 c.in-Err.ensures.stream

pub returns-clause-few : goal.returns-clause-few
returns-clause-few g c =
    let few = few_shown (g.M.Machine.world c.args.core.now) c.args.holder c.loop-name.behind.items in
    omega (arith, c.loop-name.invariant.1, few, c.names_are_few.ensures)

pub returns-clause-stream : goal.returns-clause-stream
returns-clause-stream g c =
    let w = g.M.Machine.world c.args.core.now in
    sent_as (g.W.Outlet.sink c.args.to.now) (g.W.Outlet.sink c.loop-name.to) c.args.out.now.items
    c.loop-name.out.items _ _
    (ap (flat_map (held_line w c.args.holder))
    (all_shown w c.args.holder c.loop-name.behind.items c.in_default.ensures))
    c.loop-name.invariant.0

pub returns-clause-count : goal.returns-clause-count
returns-clause-count g c =
    c.loop-name.invariant.1
    ∙ ap length (all_shown (g.M.Machine.world c.args.core.now) c.args.holder c.loop-name.behind.items
    c.in_default.ensures)
