use Rattle.std.proofs.Common.{◌≡◌, ◌+◌, ◌++◌, suc, ap, ◌∙◌, subst, arith}
use Rattle.oe_io.specs.Ports.{Sent}
use Rattle.oe_waits.specs.Knots.{any_to}
use Rattle.oe_waits.specs.Waits.{is_least_in_cycle}
use Rattle.oe_waits.specs.Texts.{cycle_line, texts_to}
use Rattle.oe_waits.proofs.TextFacts.{any_step, cut_off, last_is, went_on}
use Rattle.oe_waits.proofs.shows.all_cycles.Goals as goal

pub returns-in-Err-clause-stream : goal.returns-in-Err-clause-stream
returns-in-Err-clause-stream g c =
    cut_off (g.W.Outlet.sink c.args.to.now) (g.W.Outlet.sink c.loop-before.to) (g.W.Outlet.sink c.make_room.new.to)
    c.args.out.now.items c.loop-before.out.items (cycle_line (g.M.Machine.world c.args.core.now)) c.loop-before.before
    (omega arith)
    c.loop-before.invariant.0 c.in-Err.ensures.stream

pub returns-clause-stream : goal.returns-clause-stream
returns-clause-stream g c =
    let all : c.loop-before.before ≡ 64 = omega arith in
    subst (λ n. Sent (g.W.Outlet.sink c.args.to.now) c.args.out.now.items (g.W.Outlet.sink c.loop-before.to)
    c.loop-before.out.items (texts_to (cycle_line (g.M.Machine.world c.args.core.now)) n)) (last_is _ all)
    c.loop-before.invariant.0

pub returns-clause-found : goal.returns-clause-found
returns-clause-found g c =
    let all : c.loop-before.before ≡ 64 = omega arith in
    subst (λ n. c.loop-before.is_found ≡ any_to (is_least_in_cycle (g.M.Machine.world c.args.core.now)) n)
    (last_is _ all)
    c.loop-before.invariant.1

pub loop-before-preserved : goal.loop-before-preserved
loop-before-preserved g c =
    let w = g.M.Machine.world c.args.core.now in
    let n = c.loop-before.before in
    let same : c.terminal_after-terminal.result ≡ n + 1 = c.terminal_after-terminal.ensures in
    let one : n + 1 ≡ suc n = omega arith in (
      went_on (g.W.Outlet.sink c.args.to.now) (g.W.Outlet.sink c.loop-before.to) (g.W.Outlet.sink c.make_room.new.to)
          c.args.out.now.items c.loop-before.out.items c.make_room.new.out.items c.cycle.new.out.items (cycle_line w) n
          (n + 1)
          one c.loop-before.invariant.0 c.in_default.ensures.stream
          (c.cycle.ensures.items ∙ ap (λ t. c.make_room.new.out.items ++ cycle_line w t) same),
      c.either-is_found.ensures
          ∙ any_step (is_least_in_cycle w) n (n + 1) c.loop-before.is_found c.cycle.result one c.loop-before.invariant.1
          (c.cycle.ensures.found ∙ ap (is_least_in_cycle w) same),
    )
