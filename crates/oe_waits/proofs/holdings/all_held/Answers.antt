use Rattle.std.proofs.Common.{◌≡◌, ◌+◌, suc, subst, arith}
use Rattle.oe_io.specs.Ports.{Cut, Sent}
use Rattle.oe_waits.specs.Names.{held_count}
use Rattle.oe_waits.specs.Texts.{held_lines, texts_to}
use Rattle.oe_waits.proofs.HeldFacts.{lines_cut}
use Rattle.oe_waits.proofs.TextFacts.{last_is}
use Rattle.oe_waits.proofs.holdings.all_held.Goals as goal

pub returns-in-Err-clause-stream : goal.returns-in-Err-clause-stream
returns-in-Err-clause-stream g c =
    let n = c.loop-before.before in
    let one : n + 1 ≡ suc n = omega arith in
    lines_cut (g.W.Outlet.sink c.args.to.now) (g.W.Outlet.sink c.loop-before.to)
    (g.W.Outlet.sink c.all_of_one.new.to) c.args.out.now.items c.loop-before.out.items
    (held_lines (g.M.Machine.world c.args.core.now)) n (n + 1) one
    (omega arith) c.loop-before.invariant.0
    (subst (λ t. Cut (g.W.Outlet.sink c.loop-before.to) c.loop-before.out.items (g.W.Outlet.sink c.all_of_one.new.to)
    (held_lines (g.M.Machine.world c.args.core.now) t)) c.terminal_after.ensures c.in-Err.ensures.stream)

pub returns-clause-stream : goal.returns-clause-stream
returns-clause-stream g c =
    let all : c.loop-before.before ≡ 64 = omega arith in
    subst (λ n. Sent (g.W.Outlet.sink c.args.to.now) c.args.out.now.items (g.W.Outlet.sink c.loop-before.to)
    c.loop-before.out.items (texts_to (held_lines (g.M.Machine.world c.args.core.now)) n)) (last_is _ all)
    c.loop-before.invariant.0

pub returns-clause-count : goal.returns-clause-count
returns-clause-count g c =
    let all : c.loop-before.before ≡ 64 = omega arith in
    subst (λ n. c.loop-before.count ≡ held_count (g.M.Machine.world c.args.core.now) n) (last_is _ all)
    c.loop-before.invariant.1
