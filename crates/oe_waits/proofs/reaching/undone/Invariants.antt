use Rattle.std.proofs.Common.{◌≡◌, ℕ, ◌≤◌, true}
use Rattle.oe_waits.specs.Reaching.{is_in}
use Rattle.oe_waits.proofs.reaching.undone.Given as goal

-- those so far are done where they are found
abbrev pub invariant-loop-before : goal.invariant-loop-before
invariant-loop-before l = (u : ℕ) → 1 ≤ u → u ≤ l.before → is_in l.found u ≡ true → is_in l.done u ≡ true
