use Rattle.std.proofs.Common.{ℕ, ◌≤◌}
use Rattle.oe_store.specs.Places.{rows}
use Rattle.oe_from.specs.Scales.{HasNames}
use Rattle.oe_from.proofs.scales.unnamed_of.Given as goal

-- the districts so far have their names
abbrev pub invariant-loop-before : goal.invariant-loop-before
invariant-loop-before l = (d : ℕ) → 1 ≤ d → d ≤ l.before
    → HasNames (rows l.tables) (record { warehouse = l.warehouse.warehouse; district = d }) l.customers
