use Rattle.std.proofs.Common.{◌≡◌, ◌≤◌, ◌+◌, ◌++◌, suc, sym, ap, ◌∙◌, subst, arith}
use Rattle.oe_io.specs.Ports.{Sent}
use Rattle.oe_waits.specs.Knots.{count_to}
use Rattle.oe_waits.specs.Waits.{waits}
use Rattle.oe_waits.specs.Texts.{texts_to, waiting_line}
use Rattle.oe_waits.proofs.TextFacts.{count_step, cut_off, last_is, one_more, went_on}
use Rattle.oe_waits.proofs.shows.all_waiting.Goals as goal

pub returns-in-Err-clause-stream : goal.returns-in-Err-clause-stream
returns-in-Err-clause-stream g c =
    cut_off (g.W.Outlet.sink c.args.to.now) (g.W.Outlet.sink c.loop-before.to) (g.W.Outlet.sink c.make_room.new.to)
    c.args.out.now.items c.loop-before.out.items (waiting_line (g.M.Machine.world c.args.core.now)) c.loop-before.before
    (omega arith)
    c.loop-before.invariant.0 c.in-Err.ensures.stream

pub returns-clause-stream : goal.returns-clause-stream
returns-clause-stream g c =
    let all : c.loop-before.before ≡ 64 = omega arith in
    subst (λ n. Sent (g.W.Outlet.sink c.args.to.now) c.args.out.now.items (g.W.Outlet.sink c.loop-before.to)
    c.loop-before.out.items (texts_to (waiting_line (g.M.Machine.world c.args.core.now)) n)) (last_is _ all)
    c.loop-before.invariant.0

pub returns-clause-count : goal.returns-clause-count
returns-clause-count g c =
    let all : c.loop-before.before ≡ 64 = omega arith in
    subst (λ n. c.loop-before.count ≡ count_to (waits (g.M.Machine.world c.args.core.now)) n) (last_is _ all)
    c.loop-before.invariant.1

pub loop-before-preserved : goal.loop-before-preserved
loop-before-preserved g c =
    let w = g.M.Machine.world c.args.core.now in
    let n = c.loop-before.before in
    let same : c.terminal_after-terminal.result ≡ n + 1 = c.terminal_after-terminal.ensures in
    let one : n + 1 ≡ suc n = omega arith in (
      went_on (g.W.Outlet.sink c.args.to.now) (g.W.Outlet.sink c.loop-before.to) (g.W.Outlet.sink c.make_room.new.to)
          c.args.out.now.items c.loop-before.out.items c.make_room.new.out.items c.waiting.new.out.items
          (waiting_line w) n (n + 1)
          one c.loop-before.invariant.0 c.in_default.ensures.stream
          (c.waiting.ensures.items ∙ ap (λ t. c.make_room.new.out.items ++ waiting_line w t) same),
      c.with_one-count.ensures
          ∙ count_step (waits w) n (n + 1) c.loop-before.count c.waiting.result one
          (c.waiting.ensures.waits ∙ ap (waits w) same) c.loop-before.invariant.1,
      subst (λ k. k ≤ n + 1) (sym c.with_one-count.ensures)
          (one_more c.waiting.result c.loop-before.count n c.loop-before.invariant.2),
    )
