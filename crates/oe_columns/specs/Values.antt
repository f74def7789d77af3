-- The values of columns, and how a line's fields spell them (clause 1.3.1).
use Rattle.std.specs.Prelude.{ℕ, ◌&&◌, Bool, not, ℤ, nat_le, List, slice_get, Option, Some, None}
use Rattle.std.specs.Prelude.{Result, Ok, Err, if◌then◌else◌}
use Rattle.std.specs.Option.{option_map}
use Rattle.oe_fields.specs.Spelling.{◌>>=◌, number_of, quantity_of, amount_of, is_null, flag_of}
use Rattle.oe_columns.specs.declared.columns.Kind.{Kind}
use Rattle.oe_columns.specs.declared.columns.Kind.TheVariants as kind
use Rattle.oe_columns.specs.declared.rows.Misfit.{Misfit}

-- the value of a column of any kind
pub data Value : Type 0 where
  Number : ℕ → Value
  Quantity : ℤ → Value
  Money : ℤ → Value
  Presence : Bool → Value
  Flag : Bool → Value

abbrev pub within : ℕ → ℕ → ℕ → Option ℕ
within low high n = if nat_le low n && nat_le n high then Some n else None

-- the value of this kind that the text spells
unfoldable pub value_of : Kind → List ℕ → Option Value
value_of (kind.Number low high) s = option_map (λ n. Number n) (number_of s >>= within low high)
value_of kind.Quantity s = option_map (λ z. Quantity z) (quantity_of s)
value_of kind.Amount s = option_map (λ z. Money z) (amount_of s)
value_of kind.Nullable s = Some (Presence (not (is_null s)))
value_of kind.Flag s = option_map (λ b. Flag b) (flag_of s)

-- the places of columns, and the fields of a line
pub record Placed : Type 0 where
  pub places : List ℕ
  pub fields : List (List ℕ)

-- the field of the column of that number
unfoldable pub field_at : Placed → ℕ → Option (List ℕ)
field_at r k = slice_get r.places k >>= slice_get r.fields

-- the value, or else the column that has none
abbrev pub found_at : {A : Type 0} → ℕ → Option A → Result A Misfit
found_at k None = Err (record { column = k })
found_at k (Some v) = Ok v

-- the value of the column of that number
unfoldable pub column : Kind → ℕ → Placed → Result Value Misfit
column f k r = found_at k (field_at r k >>= value_of f)

-- the value of a column that has this number, or none
abbrev pub number_found : ℕ → ℕ → ℕ → Option ℕ → Result Value Misfit
number_found low high k n = found_at k (option_map (λ n. Number n) (n >>= within low high))

-- what was read, as a value of a column
abbrev pub read_as : {A : Type 0} → (A → Value) → Result A Misfit → Result Value Misfit
read_as f (Ok x) = Ok (f x)
read_as f (Err e) = Err e
