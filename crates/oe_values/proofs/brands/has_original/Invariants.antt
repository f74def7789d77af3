use Rattle.std.proofs.Common.{◌≡◌, drop, codes}
use Rattle.oe_values.specs.Text.{occurs_in}
use Rattle.oe_values.proofs.brands.has_original.Given as goal

abbrev pub invariant-loop-start : goal.invariant-loop-start
invariant-loop-start l = occurs_in (codes "ORIGINAL") (drop l.start l.bytes) ≡ occurs_in (codes "ORIGINAL") l.fn.text
