use Rattle.std.proofs.Common.{◌≡◌, length}
use Rattle.oe_table.specs.Table.{live}
use Rattle.oe_table.proofs.shelf_walks.RowsIterator.next.Given as goal

-- the blanked places that were passed have no row
abbrev pub invariant-loop-key : goal.invariant-loop-key
invariant-loop-key g l = live l.self-inside.slots ≡ l.fn.self

abbrev pub decreases-loop-key : goal.decreases-loop-key
decreases-loop-key g l = length l.self-inside.slots
