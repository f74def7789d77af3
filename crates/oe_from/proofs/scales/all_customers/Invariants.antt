use Rattle.std.proofs.Common.{◌≡◌, ◌⊎◌, ℕ, ◌+◌, ◌≤◌, IsSome, None}
use Rattle.oe_store.specs.Places.{rows}
use Rattle.oe_from.specs.Scales.{customer_row}
use Rattle.oe_from.proofs.scales.all_customers.Given as goal

-- the warehouses so far have that number of customers in each district, and one district no more
abbrev pub invariant-loop-before : goal.invariant-loop-before
invariant-loop-before l = (1 ≤ l.least) × (l.least ≤ 3_000)
    × ((w d c : ℕ) → 1 ≤ w → w ≤ l.before → 1 ≤ d → d ≤ 10 → 1 ≤ c → c ≤ l.least
    → IsSome (customer_row (rows l.tables) (record { warehouse = w; district = d }) c))
    × ((l.least ≡ 3_000) ⊎ ((w : ℕ) × (d : ℕ) × (1 ≤ w) × (w ≤ l.before) × (1 ≤ d) × (d ≤ 10)
    × (customer_row (rows l.tables) (record { warehouse = w; district = d }) (l.least + 1) ≡ None)))
