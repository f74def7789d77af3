-- What a line of a file spells: a row with its key.
use Rattle.std.specs.Prelude.{◌≡◌, ℕ, ◌≤◌, List}
use Rattle.oe_rows.specs.declared.histories.History.{History}
use Rattle.oe_rows.specs.declared.keys.HistoryKey.{HistoryKey}
use Rattle.oe_file_rows.specs.declared.forms.Form.{Form}
use Rattle.oe_file_rows.specs.Value.{Value}
use Rattle.oe_file_rows.specs.Line.{all_forms, fields_of, AreSpelled}
use Rattle.oe_file_rows.specs.Rows.{history_row_forms, history_row_values, behind_key, key_of_line}

-- the line spells the columns of a row
abbrev pub SpellsRow : {R : Type 0} → List (List Form) → (R → List Value) → ℕ → List ℕ → R → Type 0
SpellsRow forms values n line r = AreSpelled (all_forms forms) (values r) (fields_of line)

-- The n-th line of a HISTORY file spells the standard's columns, behind our key columns or without them. Its number
-- stands in the key, whatever key columns it has.
abbrev pub SpellsHistory : ℕ → List ℕ → HistoryKey × History → Type 0
SpellsHistory n line r =
    (n ≤ 4_294_967_295) × (r.0 ≡ key_of_line n)
    × AreSpelled (all_forms history_row_forms) (history_row_values r.1) (behind_key (fields_of line)).fields
