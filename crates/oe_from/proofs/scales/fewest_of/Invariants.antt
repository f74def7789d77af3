use Rattle.std.proofs.Common.{◌≡◌, ◌⊎◌, ℕ, ◌+◌, ◌≤◌, IsSome, None}
use Rattle.oe_store.specs.Places.{rows}
use Rattle.oe_from.specs.Scales.{customer_row}
use Rattle.oe_from.proofs.scales.fewest_of.Given as goal

-- the districts so far have that number of customers, and one of them no more
abbrev pub invariant-loop-before : goal.invariant-loop-before
invariant-loop-before l = (1 ≤ l.least) × (l.least ≤ l.most)
    × ((d c : ℕ) → 1 ≤ d → d ≤ l.before → 1 ≤ c → c ≤ l.least
    → IsSome (customer_row (rows l.tables) (record { warehouse = l.warehouse.warehouse; district = d }) c))
    × ((l.least ≡ l.most) ⊎ ((d : ℕ) × (1 ≤ d) × (d ≤ l.before)
    × (customer_row (rows l.tables) (record { warehouse = l.warehouse.warehouse; district = d }) (l.least + 1) ≡ None)))
