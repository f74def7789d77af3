-- A line's fields, the columns that are read from them, and what it means that a row is read.
use Rattle.std.specs.Prelude.{◌≡◌, ℕ, ◌+◌, ◌==◌, ◌⊎◌, List, [], ◌∷◌, ◌++◌, Option, None, Some, Result, Ok, Err}
use Rattle.std.specs.Prelude.{if◌then◌else◌}
use Rattle.oe_file_rows.specs.declared.forms.Form.{Form}
use Rattle.oe_file_rows.specs.declared.forms.LineFault.{LineFault}
use Rattle.oe_file_rows.specs.declared.forms.LineFault.TheVariants.{NoForm, MissingColumn, ExtraColumn}
use Rattle.oe_file_rows.specs.Value.{Value, IsOf, Spells}
use Rattle.oe_file_rows.specs.Word.{value_of}

-- ---- what is meant

abbrev pub before_first : ℕ → List (List ℕ) → List (List ℕ)
before_first b [] = []
before_first b (f ∷ fs) = (b ∷ f) ∷ fs

-- the fields of a line, which tabs part
abbrev pub fields_of : List ℕ → List (List ℕ)
fields_of [] = [] ∷ []
fields_of (b ∷ s) = if b == 9 then [] ∷ fields_of s else before_first b (fields_of s)

-- the forms of all groups of columns
abbrev pub all_forms : List (List Form) → List Form
all_forms [] = []
all_forms (g ∷ gs) = g ++ all_forms gs

-- field by field, the values of the forms
abbrev pub AreSpelled : List Form → List Value → List (List ℕ) → Type 0
AreSpelled [] [] [] = Unit {0}
AreSpelled (f ∷ fs) (v ∷ vs) (s ∷ ss) = IsOf f v × Spells v s × AreSpelled fs vs ss
AreSpelled _ _ _ = ⊥

-- the field spells a value of the form
abbrev pub HasForm : Form → List ℕ → Type 0
HasForm f s = (v : Value) × IsOf f v × Spells v s

-- The fault is the first, where the columns are counted from n on.
abbrev pub FailsAt : ℕ → List Form → List (List ℕ) → LineFault → Type 0
FailsAt n [] [] e = ⊥
FailsAt n [] (s ∷ ss) e = e ≡ ExtraColumn
FailsAt n (f ∷ fs) [] e = e ≡ MissingColumn n
FailsAt n (f ∷ fs) (s ∷ ss) e =
    ((HasForm f s → ⊥) × (e ≡ NoForm n f)) ⊎ (HasForm f s × FailsAt (n + 1) fs ss e)

-- what is left of a line: the fields, and the place of the first of them among the columns
pub record Left : Type 0 where
  pub column : ℕ
  pub fields : List (List ℕ)

-- A row is read exactly where what is left of a line spells its values, and else the first fault is told.
pub record ReadsLeft {R : Type 0} (l : Left) (forms : List (List Form)) (values : R → List Value)
    (result : Result R LineFault) : Type 0 where
  pub found : (r : R) → result ≡ Ok r → AreSpelled (all_forms forms) (values r) l.fields
  pub finds : (r : R) → AreSpelled (all_forms forms) (values r) l.fields → result ≡ Ok r
  pub fault : (e : LineFault) → result ≡ Err e → FailsAt l.column (all_forms forms) l.fields e

-- The same of a whole line. Its first column has that place among the columns of its table.
abbrev pub ReadsRow : {R : Type 0} → ℕ → List (List Form) → (R → List Value) → List ℕ → Result R LineFault → Type 0
ReadsRow place forms values line result =
    ReadsLeft (record { column = place; fields = fields_of line }) forms values result

-- ---- how it is read

-- the fields of what is left of a line
abbrev pub left_of : Option (List ℕ) → List (List ℕ)
left_of None = []
left_of (Some s) = fields_of s

abbrev pub first_field : List (List ℕ) → Option (List ℕ)
first_field [] = None
first_field (s ∷ ss) = Some s

abbrev pub past_first : Left → List (List ℕ) → Left
past_first l [] = l
past_first l (s ∷ ss) = record { column = l.column + 1; fields = ss }

abbrev pub past : Left → Left
past l = past_first l l.fields

infixl 10 ◌>>=◌
abbrev pub ◌>>=◌ : {A B : Type 0} → Result A LineFault → (A → Result B LineFault) → Result B LineFault
(Ok x) >>= f = f x
(Err e) >>= f = Err e

-- the end of a field, and what is left behind it: the end of the line, or a tab and more
abbrev pub ended_by : Option (List ℕ) → List ℕ
ended_by None = []
ended_by (Some s) = 9 ∷ s

-- these bytes begin with a field that spells the value, and this is left behind it
pub record BeginsWith (f : Form) (v : Value) (s : List ℕ) (left : Option (List ℕ)) : Type 0 where
  pub field : List ℕ
  pub whole : s ≡ field ++ ended_by left
  pub parted : fields_of s ≡ field ∷ left_of left
  pub spelled : value_of f field ≡ Some v

-- what was read, as a value or values of columns, and what is left then
abbrev pub read_as : {A B : Type 0} → (A → B) → Left → Result A LineFault → Result (B × Left) LineFault
read_as f l (Ok x) = Ok (f x, l)
read_as f l (Err e) = Err e

abbrev pub column_value : Form → ℕ → List (List ℕ) → Option Value → Result (Value × Left) LineFault
column_value f n ss None = Err (NoForm n f)
column_value f n ss (Some v) = Ok (v, record { column = n + 1; fields = ss })

abbrev pub column_in : Form → ℕ → List (List ℕ) → Result (Value × Left) LineFault
column_in f n [] = Err (MissingColumn n)
column_in f n (s ∷ ss) = column_value f n ss (value_of f s)

-- the next column
unfoldable pub column : Form → Left → Result (Value × Left) LineFault
column f l = column_in f l.column l.fields

-- the next columns
abbrev pub columns : List Form → Left → Result (List Value × Left) LineFault
columns [] l = Ok ([], l)
columns (f ∷ fs) l = do
  v ← column f l
  vs ← columns fs v.1
  Ok (v.0 ∷ vs.0, vs.1)

abbrev pub ended_in : List (List ℕ) → Result (List Value) LineFault
ended_in [] = Ok []
ended_in (s ∷ ss) = Err ExtraColumn

-- the end of the line
unfoldable pub values_at_end : Left → Result (List Value) LineFault
values_at_end l = ended_in l.fields

-- an end has no values
abbrev pub ends : {A : Type 0} → Result A LineFault → Result (List Value) LineFault
ends (Ok x) = Ok []
ends (Err e) = Err e

-- the columns of all groups, and the end of the line behind them
abbrev pub group_columns : List (List Form) → Left → Result (List Value) LineFault
group_columns [] l = values_at_end l
group_columns (g ∷ gs) l = do
  vs ← columns g l
  ws ← group_columns gs vs.1
  Ok (vs.0 ++ ws)

-- the values of a row that was read
abbrev pub row_as : {R : Type 0} → (R → List Value) → Result R LineFault → Result (List Value) LineFault
row_as values (Ok r) = Ok (values r)
row_as values (Err e) = Err e
