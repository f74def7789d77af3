-- The first of conditions 1 to 4 that fails, if one does.
use Rattle.std.specs.Prelude.{◌≡◌, ◌≤◌, ◌<◌, Bool, true, false, Option, Some, None}
use Rattle.oe_requests.specs.declared.audits.Condition.{Condition}
use Rattle.oe_requests.specs.Condition.{condition_number}
use Rattle.oe_machine.specs.Verdict.{condition_of}
use Rattle.oe_model.specs.Audits as model
use Rattle.oe_model.specs.Rows.{Rows}

-- the verdict names a row
abbrev pub names_a_row : model.Verdict → Bool
names_a_row model.Holds = false
names_a_row (model.Fails k) = true

-- the condition fails at some row
abbrev pub fails : Condition → Rows → Bool
fails c r = names_a_row (model.verdict (condition_of c) r)

-- none of conditions 1 to 4 fails; or this one does, and none before it
abbrev pub IsFirstFailing : Rows → Option Condition → Type 0
IsFirstFailing r None = (c : Condition) → condition_number c ≤ 4 → fails c r ≡ false
IsFirstFailing r (Some c) =
    (condition_number c ≤ 4) × (fails c r ≡ true)
    × ((d : Condition) → condition_number d < condition_number c → fails d r ≡ false)
