use Rattle.std.proofs.Common.{◌≡◌}
use Rattle.oe_table.proofs.SweepFacts.{swept_to}
use Rattle.oe_table.proofs.shelves.sweep_each.Given as goal

-- the shelves that were passed are swept
abbrev pub invariant-loop-number : goal.invariant-loop-number
invariant-loop-number g l = l.shelves.items ≡ swept_to l.number l.fn.shelves.items
