use Rattle.std.proofs.Common.{◌≡◌}
use Rattle.std.specs.List.{flat_map}
use Rattle.oe_file_tables.proofs.batches.Batches.join.Given as goal

-- the rows of the batches so far stand in one
abbrev pub invariant-loop-batch : goal.invariant-loop-batch
invariant-loop-batch g l = l.rows.items ≡ flat_map (λ v. v.items) l.yielded
