use Rattle.std.proofs.Common.{ℕ, ◌≤◌, IsSome}
use Rattle.oe_store.specs.Places.{rows}
use Rattle.oe_from.specs.Scales.{customer_row}
use Rattle.oe_from.proofs.scales.customers.Given as goal

-- those so far are there
abbrev pub invariant-loop-before : goal.invariant-loop-before
invariant-loop-before l = (n : ℕ) → 1 ≤ n → n ≤ l.before → IsSome (customer_row (rows l.tables) l.district n)
