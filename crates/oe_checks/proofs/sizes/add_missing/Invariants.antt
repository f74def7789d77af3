use Rattle.std.proofs.Common.{◌≡◌, ◌++◌, drop}
use Rattle.oe_checks.specs.Sizes.{missing_of}
use Rattle.oe_checks.proofs.sizes.add_missing.Given as goal

-- what was put there and what is to be put there make what there is to put
abbrev pub invariant-loop-entry : goal.invariant-loop-entry
invariant-loop-entry l =
    l.found.items ++ missing_of l.stocks l.warehouse (drop l.entry-index l.items)
    ≡ l.fn.found.items ++ missing_of l.stocks l.warehouse l.items
