-- The first column at which two rows differ, in the lines that a dump prints of them.
use Rattle.std.specs.Prelude.{ℕ, ◌+◌, ◌-◌, List, [], ◌∷◌, length, take, Option, None, Some, nat_eq, if◌then◌else◌, Bool}
use Rattle.std.specs.Cmp.Lexicographic.{pointwise}
use Rattle.oe_texts.specs.Column.{line_of}
use Rattle.oe_file_rows.specs.Line.{fields_of}
use Rattle.oe_comparison.specs.declared.columns.OtherColumn as column

-- the line of a row, without the byte 10 that ends it
abbrev pub shown_line : List (List ℕ) → List ℕ
shown_line columns = take (length (line_of columns) - 1) (line_of columns)

-- the texts of its columns, which tabs part
abbrev pub column_texts : List (List ℕ) → List (List ℕ)
column_texts columns = fields_of (shown_line columns)

-- a column at which two rows differ: its place, counted from 0, and both its texts
pub record Other : Type 0 where
  pub place : ℕ
  pub theirs : List ℕ
  pub ours : List ℕ

abbrev pub texts_of : column.OtherColumn → Other
texts_of c = record { place = c.place; theirs = c.theirs.now; ours = c.ours.now }

abbrev pub is_same : List ℕ → List ℕ → Bool
is_same t o = pointwise nat_eq t o

-- the first column at which the rows differ, where their first columns have the place n
abbrev pub first_other : ℕ → List (List ℕ) → List (List ℕ) → Option Other
first_other n [] os = None
first_other n (t ∷ ts) [] = None
first_other n (t ∷ ts) (o ∷ os) =
    if is_same t o then first_other (n + 1) ts os else Some (record { place = n; theirs = t; ours = o })
