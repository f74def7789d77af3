use Rattle.std.proofs.Common.{◌≡◌, drop}
use Rattle.oe_values.specs.Front.{after_of}
use Rattle.oe_values.proofs.fronts.after.Given as goal

-- the text begins with the bytes so far
abbrev pub invariant-loop-i : goal.invariant-loop-i
invariant-loop-i l = after_of l.front l.text ≡ after_of (drop l.i l.front) (drop l.i l.text)
