use Rattle.std.proofs.Common.{◌≡◌, ℕ, true, false}
use Rattle.oe_locks.specs.Held.{go_together, mode_held}
use Rattle.oe_locks.specs.Terminals.{has}
use Rattle.oe_locks.proofs.SetFacts.{size}
use Rattle.oe_locks.proofs.Locks.least_in_the_way.Given as goal

abbrev pub invariant-loop-other : goal.invariant-loop-other
invariant-loop-other l = record {
  -- those that are left are among them
  within : (u : ℕ) → has l.left u ≡ true → has l.fn.others u ≡ true;
  -- and those that were looked at are not in the way
  free : (u : ℕ) → has l.fn.others u ≡ true → has l.left u ≡ false
      → go_together l.mode (mode_held l.self-inside.held u l.name) ≡ true;
}

abbrev pub decreases-loop-other : goal.decreases-loop-other
decreases-loop-other l = size l.left 64
