use Rattle.std.proofs.Common.{ℕ, ◌≤◌}
use Rattle.oe_store.specs.Places.{rows}
use Rattle.oe_from.specs.Scales.{AreNamed}
use Rattle.oe_from.proofs.scales.all_named.Given as goal

-- the warehouses so far have their names
abbrev pub invariant-loop-before : goal.invariant-loop-before
invariant-loop-before l = (w : ℕ) → 1 ≤ w → w ≤ l.before
    → AreNamed (rows l.tables) (record { warehouse = w }) l.scale.customers
