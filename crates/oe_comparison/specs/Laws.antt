-- What it means that nothing differs, or that something is the first to.
use Rattle.std.specs.Prelude.{◌≡◌, ◌↔◌, ℕ, List, [], ◌∷◌, ◌++◌, None, Some}
use Rattle.std.specs.declared.cmp.Ordering.{Ordering}
use Rattle.std.specs.declared.cmp.Ordering.TheVariants.{Less, Greater}
use Rattle.oe_texts.specs.Dump.{warehouse_columns, district_columns, customer_columns, history_columns}
use Rattle.oe_texts.specs.Dump.{new_order_columns, order_columns, order_line_columns, item_columns, stock_columns}
use Rattle.oe_file_rows.specs.declared.forms.Form.{Form}
use Rattle.oe_file_rows.specs.Value.{Value}
use Rattle.oe_file_rows.specs.Line.{all_forms}
use Rattle.oe_file_rows.specs.Dumped.{AreOf}
use Rattle.oe_file_rows.specs.Rows.{warehouse_forms, warehouse_values, district_forms, district_values, customer_forms}
use Rattle.oe_file_rows.specs.Rows.{customer_values, history_forms, history_values, new_order_forms, new_order_values}
use Rattle.oe_file_rows.specs.Rows.{order_forms, order_values, order_line_forms, order_line_values, item_forms}
use Rattle.oe_file_rows.specs.Rows.{item_values, stock_forms, stock_values}
use Rattle.oe_comparison.specs.Columns.{column_texts, first_other}
use Rattle.oe_comparison.specs.Differences.{Difference, Extra, Missing, Column, differences}

-- Two rows are the same where their columns are in their ranges and no column differs.
abbrev pub AreToldApart : {R : Type 0} → List (List Form) → (R → List Value) → (R → List (List ℕ)) → Type 0
AreToldApart {R} forms values columns =
    (a b : R) → AreOf (all_forms forms) (values a) → AreOf (all_forms forms) (values b)
    → first_other 0 (column_texts (columns a)) (column_texts (columns b)) ≡ None → a ≡ b

pub record Rows_are_told_apart : Type 0 where
  pub warehouses : AreToldApart warehouse_forms warehouse_values (λ r. warehouse_columns r.0 r.1)
  pub districts : AreToldApart district_forms district_values (λ r. district_columns r.0 r.1)
  pub customers : AreToldApart customer_forms customer_values (λ r. customer_columns r.0 r.1)
  pub histories : AreToldApart history_forms history_values (λ r. history_columns r.0 r.1)
  pub new_orders : AreToldApart new_order_forms new_order_values (λ r. new_order_columns r.0)
  pub orders : AreToldApart order_forms order_values (λ r. order_columns r.0 r.1)
  pub order_lines : AreToldApart order_line_forms order_line_values (λ r. order_line_columns r.0 r.1)
  pub items : AreToldApart item_forms item_values (λ r. item_columns r.0 r.1)
  pub stocks : AreToldApart stock_forms stock_values (λ r. stock_columns r.0 r.1)

-- row by row, the keys are the same, and no column differs
abbrev pub AreSame : {K : Type 0} → List (K × List (List ℕ)) → List (K × List (List ℕ)) → Type 0
AreSame [] [] = Unit {0}
AreSame [] (o ∷ os) = ⊥
AreSame (t ∷ ts) [] = ⊥
AreSame (t ∷ ts) (o ∷ os) = (t.0 ≡ o.0) × (first_other 0 t.1 o.1 ≡ None) × AreSame ts os

-- what is left of both sides begins with that difference: the key of one side is not among what is left of the other,
-- whose keys ascend, or both begin with the key, and the column is the first that differs
abbrev pub BeginsSo : {K : Type 0} → (K → K → Ordering) → List (K × List (List ℕ)) → List (K × List (List ℕ))
    → Difference K → Type 0
BeginsSo cmp [] [] (Extra k) = ⊥
BeginsSo cmp [] (o ∷ os) (Extra k) = ⊥
BeginsSo cmp (t ∷ ts) [] (Extra k) = k ≡ t.0
BeginsSo cmp (t ∷ ts) (o ∷ os) (Extra k) = (k ≡ t.0) × (cmp t.0 o.0 ≡ Less)
BeginsSo cmp [] [] (Missing k) = ⊥
BeginsSo cmp (t ∷ ts) [] (Missing k) = ⊥
BeginsSo cmp [] (o ∷ os) (Missing k) = k ≡ o.0
BeginsSo cmp (t ∷ ts) (o ∷ os) (Missing k) = (k ≡ o.0) × (cmp t.0 o.0 ≡ Greater)
BeginsSo cmp [] [] (Column k c) = ⊥
BeginsSo cmp [] (o ∷ os) (Column k c) = ⊥
BeginsSo cmp (t ∷ ts) [] (Column k c) = ⊥
BeginsSo cmp (t ∷ ts) (o ∷ os) (Column k c) = (k ≡ o.0) × (t.0 ≡ o.0) × (first_other 0 t.1 o.1 ≡ Some c)

-- the rows before a difference are the same
pub record IsFirst {K : Type 0} (cmp : K → K → Ordering) (theirs ours : List (K × List (List ℕ)))
    (d : Difference K) : Type 0 where
  pub their_front : List (K × List (List ℕ))
  pub our_front : List (K × List (List ℕ))
  pub their_rest : List (K × List (List ℕ))
  pub our_rest : List (K × List (List ℕ))
  pub theirs_are : theirs ≡ their_front ++ their_rest
  pub ours_are : ours ≡ our_front ++ our_rest
  pub same : AreSame their_front our_front
  pub begins : BeginsSo cmp their_rest our_rest d

-- No row differs exactly where all are the same; else the first of the list is the first row that differs.
pub record Differences_are_first {K : Type 0} (cmp : K → K → Ordering) : Type 0 where
  pub none : (theirs ours : List (K × List (List ℕ))) → (differences cmp theirs ours ≡ []) ↔ AreSame theirs ours
  pub some : (theirs ours : List (K × List (List ℕ))) (d : Difference K) (ds : List (Difference K))
      → differences cmp theirs ours ≡ d ∷ ds → IsFirst cmp theirs ours d
