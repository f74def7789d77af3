use Rattle.std.proofs.Common.{◌≡◌, ℕ, ◌-◌, ◌+◌, ◌++◌, replicate, []}
use Rattle.oe_undo.proofs.places.reach_shelf.Given as goal

abbrev pub invariant-loop-alloc : goal.invariant-loop-alloc
invariant-loop-alloc g l = (n : ℕ) × (l.shelves.items ≡ l.fn.shelves.items ++ replicate n [])

abbrev pub decreases-loop-alloc : goal.decreases-loop-alloc
decreases-loop-alloc g l = l.shelf + 1 - l.shelves.len
