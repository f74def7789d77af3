-- So many so far, and room for the rest.
use Rattle.std.proofs.Common.{◌≡◌, ◌≤◌, [], replicate, vec_capacity}
use Rattle.oe_extent.proofs.ring.empty_lists.Given as goal

abbrev pub invariant-loop : goal.invariant-loop
invariant-loop l = record { items : l.lists.items ≡ replicate l.counter []; room : l.count ≤ vec_capacity l.lists }
