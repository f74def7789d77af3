use Rattle.std.proofs.Common.{◌≡◌, drop}
use Rattle.std.specs.List.{fold}
use Rattle.oe_columns.specs.Prints.{print_with}
use Rattle.oe_columns.proofs.prints.text_mixed.Given as goal

-- the bytes so far are in the print
abbrev pub invariant-loop-byte : goal.invariant-loop-byte
invariant-loop-byte l = fold print_with l.print (drop l.byte-index l.text) ≡ fold print_with l.fn.start l.text
