use Rattle.std.proofs.Common.{◌≡◌, drop}
use Rattle.oe_columns.specs.Prints.{behind_zeros}
use Rattle.oe_columns.proofs.prints.behind_zeros.Given as goal

-- zeros stand before here
abbrev pub invariant-loop-i : goal.invariant-loop-i
invariant-loop-i l = behind_zeros l.text ≡ behind_zeros (drop l.i l.text)
