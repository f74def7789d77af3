use Rattle.std.proofs.Common.{◌≡◌, drop}
use Rattle.oe_fields.specs.Spelling.{digits_from}
use Rattle.oe_fields.proofs.numbers.digits_from.Given as goal

-- the digits so far are in the number
abbrev pub invariant-loop-i : goal.invariant-loop-i
invariant-loop-i l = digits_from l.fn.start l.text ≡ digits_from l.n (drop l.i l.text)
