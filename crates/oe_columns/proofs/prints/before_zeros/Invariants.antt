use Rattle.std.proofs.Common.{◌≡◌, ◌++◌, take, drop}
use Rattle.oe_columns.specs.Prints.{before_zeros}
use Rattle.oe_columns.proofs.prints.before_zeros.Given as goal

-- what stands before here stays
abbrev pub invariant-loop-i : goal.invariant-loop-i
invariant-loop-i l = before_zeros l.text ≡ take l.i l.text ++ before_zeros (drop l.i l.text)
