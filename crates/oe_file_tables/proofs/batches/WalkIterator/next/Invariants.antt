use Rattle.std.proofs.Common.{◌≡◌, length, []}
use Rattle.std.specs.List.{flat_map}
use Rattle.std.specs.Slice.Iter.{iter_rest}
use Rattle.oe_file_tables.proofs.batches.WalkIterator.next.Given as goal

-- the batches that were passed had no row
abbrev pub invariant-loop-batch : goal.invariant-loop-batch
invariant-loop-batch g l = (iter_rest l.self-inside.batch ≡ [])
    × (flat_map (λ v. v.items) (iter_rest l.self-inside.batches) ≡ l.fn.self)

abbrev pub decreases-loop-batch : goal.decreases-loop-batch
decreases-loop-batch g l = length (iter_rest l.self-inside.batches)
