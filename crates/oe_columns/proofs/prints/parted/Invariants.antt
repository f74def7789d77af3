use Rattle.std.proofs.Common.{◌≡◌, ◌++◌, take, drop}
use Rattle.oe_columns.specs.Prints.{decimal_parts}
use Rattle.oe_columns.proofs.prints.parted.Given as goal

-- no point stands before here
abbrev pub invariant-loop-i : goal.invariant-loop-i
invariant-loop-i l =
    decimal_parts l.text ≡ (take l.i l.text ++ (decimal_parts (drop l.i l.text)).0, (decimal_parts (drop l.i l.text)).1)
