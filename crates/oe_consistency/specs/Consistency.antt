-- That conditions 5 to 10 and 12 hold from a population on.
use Rattle.oe_theory.specs.Theorems.{IsKept, Holds_from_base}
use Rattle.oe_rows.specs.declared.scales.Scale.{Scale}
use Rattle.oe_model.specs.Rows.{Rows}
use Rattle.oe_model.specs.FurtherConditions.{More}
use Rattle.oe_model.specs.Population.{IsScale, IsPopulated}
use Rattle.oe_model.specs.System.{system}

-- where the conditions hold of the tables between transactions, they hold of the tables that a whole effect leaves
abbrev pub Further_conditions_are_kept : Type 0
Further_conditions_are_kept = IsKept system More

-- where the conditions hold of the base as it is now, they hold of each version
abbrev pub More_holds_from_base : Type 0
More_holds_from_base = Holds_from_base system More

-- the conditions hold of the population by formula
abbrev pub Population_has_more : Type 0
Population_has_more = (s : Scale) (r : Rows) → IsScale s → IsPopulated s r → More r
