-- That the movements hold from a population on.
use Rattle.std.specs.Prelude.{ℕ}
use Rattle.oe_theory.specs.Theorems.{IsKept, Holds_from_base}
use Rattle.oe_rows.specs.declared.scales.Scale.{Scale}
use Rattle.oe_model.specs.Rows.{Rows}
use Rattle.oe_model.specs.FurtherConditions.{More}
use Rattle.oe_model.specs.Population.{IsScale, IsPopulated}
use Rattle.oe_model.specs.System.{system}
use Rattle.oe_movements.specs.Movements.{Movements, IsNumberedFirst}

-- the seven hold beside conditions 5 to 10 and 12, where the population's orders are numbered first
pub record HasMovements (initial : ℕ) (r : Rows) : Type 0 where
  pub more : More r
  pub first : IsNumberedFirst initial r
  pub movements : Movements initial r

-- where they hold of the tables between transactions, they hold of the tables that a whole effect leaves
abbrev pub Movements_are_kept : Type 0
Movements_are_kept = (initial : ℕ) → IsKept system (HasMovements initial)

-- where they hold of the base as it is now, they hold of each version
abbrev pub Movements_hold_from_base : Type 0
Movements_hold_from_base = (initial : ℕ) → Holds_from_base system (HasMovements initial)

-- they hold of the population by formula, which has as many orders in each district as customers
abbrev pub Population_has_movements : Type 0
Population_has_movements = (s : Scale) (r : Rows) → IsScale s → IsPopulated s r → HasMovements s.customers r
