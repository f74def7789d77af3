use Rattle.std.proofs.Common.{◌≤◌, ◌-◌, length}
use Rattle.oe_table.proofs.shelf.lower_places.Given as goal

abbrev pub invariant-loop-from : goal.invariant-loop-from
invariant-loop-from g l = l.to ≤ length l.slots

abbrev pub decreases-loop-from : goal.decreases-loop-from
decreases-loop-from g l = l.to - l.from
