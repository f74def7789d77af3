use Rattle.std.proofs.Common.{◌≡◌, ◌+◌, ◌-◌, ◌<◌, arith}
use Rattle.oe_locks.proofs.SetFacts.{has-at}
use Rattle.oe_locks.proofs.sets.TerminalSet.has.Goals as goal

pub returns : goal.returns
returns c =
    let within : c.get.result - 1 < 64 = omega arith in
    let slot : c.get.result - 1 + 1 ≡ c.args.terminal = omega arith in
    rw (← c.self.view_is) (has-at c.self.inside.bits (c.get.result - 1) c.args.terminal within slot)
