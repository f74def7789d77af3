use Rattle.std.proofs.Common.{◌<◌, ◌^◌, arith, refl}
use Rattle.oe_locks.proofs.SetFacts.{least_is}
use Rattle.oe_locks.proofs.sets.TerminalSet.least.Goals as goal

pub returns : goal.returns
returns c =
    let some : 0 < c.self.inside.bits = omega arith in
    let fits : c.self.inside.bits < 2 ^ 64 = omega arith in
    rw (← c.self.view_is)
    (least_is c.self.inside.bits _ c.new.result some fits refl c.new.ensures.variant c.new.ensures.value)
