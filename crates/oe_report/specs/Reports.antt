-- The two lines of a report, and the exit status.
use Rattle.std.specs.Prelude.{ℕ, Bool, true, false, Option, Some, None, List, ◌++◌, codes}
use Rattle.std.specs.Fmt.{decimal}
use Rattle.oe_requests.specs.declared.audits.Condition.{Condition}
use Rattle.oe_requests.specs.Condition.{condition_number}

-- conditions 1 2 3 4 hold, or condition N fails
abbrev pub condition_line : Option Condition → List ℕ
condition_line None = codes "conditions 1 2 3 4 hold\n"
condition_line (Some c) = codes "condition " ++ decimal (condition_number c) ++ codes " fails\n"

-- population restored, or population differs
abbrev pub population_line : Bool → List ℕ
population_line true = codes "population restored\n"
population_line false = codes "population differs\n"

abbrev pub report_of : Option Condition → Bool → List ℕ
report_of failing is_restored = condition_line failing ++ population_line is_restored

-- 0 where no condition fails and the population is restored
abbrev pub status_of : Option Condition → Bool → ℕ
status_of None true = 0
status_of None false = 1
status_of (Some c) is_restored = 1
