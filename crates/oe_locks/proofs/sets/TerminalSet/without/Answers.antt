use Rattle.std.proofs.Common.{◌≡◌, ◌+◌, ◌-◌, ◌<◌, ◌^◌, arith}
use Rattle.oe_locks.proofs.SetFacts.{has-without}
use Rattle.oe_locks.proofs.sets.TerminalSet.without.Goals as goal

pub returns : goal.returns
returns c =
    let fits : c.self.inside.bits < 2 ^ 64 = omega arith in
    let within : c.get.result - 1 < 64 = omega arith in
    let slot : c.get.result - 1 + 1 ≡ c.args.terminal = omega arith in
    rw (← c.self.view_is) (has-without c.self.inside.bits (c.get.result - 1) c.args.terminal within slot fits)
