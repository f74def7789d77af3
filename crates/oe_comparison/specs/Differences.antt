-- The rows at which a file and a table differ, in the order of keys.
use Rattle.std.specs.Prelude.{ℕ, List, [], ◌∷◌, map, Option, None, Some}
use Rattle.std.specs.declared.cmp.Ordering.{Ordering}
use Rattle.std.specs.declared.cmp.Ordering.TheVariants.{Less, Equal, Greater}
use Rattle.oe_file_tables.specs.declared.lines.Numbered.{Numbered}
use Rattle.oe_comparison.specs.Columns.{column_texts, Other, first_other}

-- a row of the file alone, a row of the table alone, or a row of both, whose column differs
pub data Difference (K : Type 0) : Type 0 where
  Extra : K → Difference K
  Missing : K → Difference K
  Column : K → Other → Difference K

-- where two keys compare so: the lesser one stands alone, and two that are equal have the first column that differs, if
-- there is one; behind a key of the file, of both, and of the table, these rows differ
abbrev pub differences_at : {K : Type 0} → Ordering → K → K → Option Other → List (Difference K) → List (Difference K)
    → List (Difference K) → List (Difference K)
differences_at Less t o c below both above = Extra t ∷ below
differences_at Greater t o c below both above = Missing o ∷ above
differences_at Equal t o (Some c) below both above = Column o c ∷ both
differences_at Equal t o None below both above = both

-- the rows that differ from the file's row t on, where those behind it are `behind`
abbrev pub from_row : {K : Type 0} → (K → K → Ordering) → K × List (List ℕ)
    → (List (K × List (List ℕ)) → List (Difference K)) → List (K × List (List ℕ)) → List (Difference K)
from_row cmp t behind [] = Extra t.0 ∷ behind []
from_row cmp t behind (o ∷ os) =
    differences_at (cmp t.0 o.0) t.0 o.0 (first_other 0 t.1 o.1) (behind (o ∷ os)) (behind os)
    (from_row cmp t behind os)

-- the file's rows and the table's, each a key with the texts of the columns
abbrev pub differences : {K : Type 0} → (K → K → Ordering) → List (K × List (List ℕ)) → List (K × List (List ℕ))
    → List (Difference K)
differences cmp [] = map (λ o. Missing o.0)
differences cmp (t ∷ ts) = from_row cmp t (differences cmp ts)

-- rows with their keys, as they are compared: each key with the texts of the columns
abbrev pub with_columns : {K X : Type 0} → (K → X → List (List ℕ)) → List (K × X) → List (K × List (List ℕ))
with_columns columns es = map (λ e. (e.0, columns e.0 e.1)) es

-- a file's row with its key
abbrev pub row_by_key : {K X : Type 0} → Numbered K X → K × X
row_by_key n = (n.key, n.row)

-- the rows of a file, and the rows of a table
abbrev pub theirs_shown : {K X : Type 0} → (K → X → List (List ℕ)) → List (Numbered K X) → List (K × List (List ℕ))
theirs_shown columns ns = map (λ n. (n.key, column_texts (columns n.key n.row))) ns

abbrev pub ours_shown : {K X : Type 0} → (K → X → List (List ℕ)) → List (K × X) → List (K × List (List ℕ))
ours_shown columns es = map (λ e. (e.0, column_texts (columns e.0 e.1))) es

-- rows that have no key: each is its own key, and stands for itself
abbrev pub own_key : {X : Type 0} → X → X × X
own_key x = (x, x)

abbrev pub keyless : {X : Type 0} → List X → List (X × List (List ℕ))
keyless rows = map (λ x. (x, [])) rows
