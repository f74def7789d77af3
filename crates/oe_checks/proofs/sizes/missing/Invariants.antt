use Rattle.std.proofs.Common.{◌≡◌, ◌++◌, drop}
use Rattle.oe_checks.specs.Sizes.{all_missing}
use Rattle.oe_checks.proofs.sizes.missing.Given as goal

-- what was found and what is to be found make what is missing
abbrev pub invariant-loop-entry : goal.invariant-loop-entry
invariant-loop-entry l =
    l.found.items ++ all_missing l.stocks l.items (drop l.entry-index l.warehouses)
    ≡ all_missing l.stocks l.items l.warehouses
