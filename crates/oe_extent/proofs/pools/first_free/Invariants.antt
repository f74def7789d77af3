-- None so far is free.
use Rattle.std.proofs.Common.{map, is_some}
use Rattle.oe_extent.specs.Free.{AllTaken}
use Rattle.oe_extent.proofs.pools.first_free.Given as goal

abbrev pub invariant-loop-i : goal.invariant-loop-i
invariant-loop-i l = AllTaken (map is_some l.extents) l.from l.i
