use Rattle.std.proofs.Common.{◌≡◌, [], length, take, ◌-◌}
use Rattle.oe_table.specs.Table.{live}
use Rattle.oe_table.proofs.shelf.Shelf.front.Given as goal

abbrev pub invariant-loop-slot : goal.invariant-loop-slot
invariant-loop-slot g l = live (take l.passed l.self-inside.slots) ≡ []

abbrev pub decreases-loop-slot : goal.decreases-loop-slot
decreases-loop-slot g l = length l.self-inside.slots - l.passed
