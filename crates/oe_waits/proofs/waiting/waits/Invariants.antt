use Rattle.std.proofs.Common.{◌≡◌, false}
use Rattle.oe_waits.specs.Knots.{any_to}
use Rattle.oe_waits.specs.Waits.{waits_for}
use Rattle.oe_waits.proofs.waiting.waits.Given as goal

-- it waits for none of the terminals so far
abbrev pub invariant-loop-before : goal.invariant-loop-before
invariant-loop-before g l = any_to (waits_for (g.M.Machine.world l.core) l.terminal) l.before ≡ false
