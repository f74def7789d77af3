use Rattle.std.proofs.Common.{◌<◌, ◌≤◌, ◌+◌, length}
use Rattle.oe_tally.proofs.tally.place_of.Given as goal

abbrev pub invariant-loop-size : goal.invariant-loop-size
invariant-loop-size g l = (0 < l.size) × (l.low + l.size ≤ length l.entries)

abbrev pub decreases-loop-size : goal.decreases-loop-size
decreases-loop-size g l = l.size
