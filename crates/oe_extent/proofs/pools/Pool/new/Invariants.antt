-- So many are free, each at its number, and there is room for the rest.
use Rattle.std.proofs.Common.{◌≡◌, ◌≤◌, true, replicate, map, is_some, vec_capacity}
use Rattle.oe_extent.specs.Extents.{LieAtNumbers}
use Rattle.oe_extent.proofs.pools.Pool.new.Given as goal

abbrev pub invariant-loop-number : goal.invariant-loop-number
invariant-loop-number l = record {
  free : map is_some l.extents.items ≡ replicate l.number true;
  numbered : LieAtNumbers l.extents.items;
  room : l.count ≤ vec_capacity l.extents;
}
