-- What a dump prints of a row is one of the row's spellings.
use Rattle.std.specs.Prelude.{◌≡◌, ℕ, List, [], ◌∷◌, ◌++◌, codes, decimal}
use Rattle.oe_rows.specs.Credit.{money_text}
use Rattle.oe_rows.specs.declared.histories.History.{History}
use Rattle.oe_rows.specs.declared.keys.HistoryKey.{HistoryKey}
use Rattle.oe_texts.specs.Column.{balance_text, rate_text, credit_text, flag_text, line_of}
use Rattle.oe_texts.specs.Dump.{warehouse_columns, district_columns, customer_columns, history_columns}
use Rattle.oe_texts.specs.Dump.{new_order_columns, order_columns, order_line_columns, item_columns, stock_columns}
use Rattle.oe_texts.specs.Stamp.{stamp_text}
use Rattle.oe_file_rows.specs.declared.forms.Form.{Form}
use Rattle.oe_file_rows.specs.Value.{Value, Null, Number, Text, Money, Balance, Rate, Standing, Flag, Stamp, IsOf}
use Rattle.oe_file_rows.specs.Line.{all_forms, fields_of, AreSpelled}
use Rattle.oe_file_rows.specs.Rows.{warehouse_forms, warehouse_values, district_forms, district_values, customer_forms}
use Rattle.oe_file_rows.specs.Rows.{customer_values, history_forms, history_values, history_row_forms}
use Rattle.oe_file_rows.specs.Rows.{history_row_values, behind_key, new_order_forms, new_order_values}
use Rattle.oe_file_rows.specs.Rows.{order_forms, order_values, order_line_forms, order_line_values, item_forms}
use Rattle.oe_file_rows.specs.Rows.{item_values, stock_forms, stock_values}

-- the text of a value in a dump
abbrev pub text_of : Value → List ℕ
text_of Null = codes "-"
text_of (Number n) = decimal n
text_of (Text t) = t
text_of (Money n) = money_text n
text_of (Balance z) = balance_text z
text_of (Rate n) = rate_text n
text_of (Standing c) = credit_text c
text_of (Flag b) = flag_text b
text_of (Stamp n) = stamp_text n

-- the values of columns are in their ranges
abbrev pub AreOf : List Form → List Value → Type 0
AreOf [] [] = Unit {0}
AreOf (f ∷ fs) (v ∷ vs) = IsOf f v × AreOf fs vs
AreOf _ _ = ⊥

-- The line of a dumped row, without its end, spells the row.
abbrev pub AreReadBack : {R : Type 0} → List (List Form) → (R → List Value) → (R → List (List ℕ)) → Type 0
AreReadBack {R} forms values columns =
    (r : R) (line : List ℕ) → AreOf (all_forms forms) (values r) → line_of (columns r) ≡ line ++ 10 ∷ []
    → AreSpelled (all_forms forms) (values r) (fields_of line)

pub record Dumps_are_read : Type 0 where
  pub warehouses : AreReadBack warehouse_forms warehouse_values (λ r. warehouse_columns r.0 r.1)
  pub districts : AreReadBack district_forms district_values (λ r. district_columns r.0 r.1)
  pub customers : AreReadBack customer_forms customer_values (λ r. customer_columns r.0 r.1)
  -- of a HISTORY row the standard's columns are read back, and its key is not
  pub histories : (r : HistoryKey × History) (line : List ℕ) → AreOf (all_forms history_forms) (history_values r)
      → line_of (history_columns r.0 r.1) ≡ line ++ 10 ∷ []
      → AreSpelled (all_forms history_row_forms) (history_row_values r.1) (behind_key (fields_of line)).fields
  pub new_orders : AreReadBack new_order_forms new_order_values (λ r. new_order_columns r.0)
  pub orders : AreReadBack order_forms order_values (λ r. order_columns r.0 r.1)
  pub order_lines : AreReadBack order_line_forms order_line_values (λ r. order_line_columns r.0 r.1)
  pub items : AreReadBack item_forms item_values (λ r. item_columns r.0 r.1)
  pub stocks : AreReadBack stock_forms stock_values (λ r. stock_columns r.0 r.1)
