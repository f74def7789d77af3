-- The print of a row: 64 bits of the columns that no transaction changes.
use Rattle.std.specs.Prelude.{ℕ, ◌+◌, ◌*◌, ◌%◌, ◌^◌, ◌==◌, Bool, List, [], ◌∷◌, length, Option, Some, None}
use Rattle.std.specs.Prelude.{if◌then◌else◌}
use Rattle.std.specs.List.{fold, list_all}
use Rattle.oe_facts.specs.declared.tables.Table.{Table}
use Rattle.oe_columns.specs.declared.constants.Form.{Form}
use Rattle.oe_columns.specs.declared.constants.Form.TheVariants as form
use Rattle.oe_columns.specs.declared.prints.TheConstants.{START}
use Rattle.oe_columns.specs.Constants.{constants_of}
use Rattle.oe_columns.specs.Values.{Placed, field_at}

-- a print that goes on with a number up to 256
unfoldable pub print_with : ℕ → ℕ → ℕ
print_with print symbol = ((print * 6_364_136_223_846_793_005) % 2 ^ 64 + symbol) % 2 ^ 64

-- ---- numbers

-- what follows the zeros at the front
abbrev pub behind_zeros : List ℕ → List ℕ
behind_zeros [] = []
behind_zeros (b ∷ s) = if b == 48 then behind_zeros s else b ∷ s

abbrev pub are_zeros : List ℕ → Bool
are_zeros s = list_all (λ b. b == 48) s

-- what stands before the zeros at the end
abbrev pub before_zeros : List ℕ → List ℕ
before_zeros [] = []
before_zeros (b ∷ s) = if are_zeros (b ∷ s) then [] else b ∷ before_zeros s

-- what stands before the point, and the decimals behind it
abbrev pub decimal_parts : List ℕ → List ℕ × List ℕ
decimal_parts [] = ([], [])
decimal_parts (b ∷ s) = if b == 46 then ([], s) else (b ∷ (decimal_parts s).0, (decimal_parts s).1)

-- ---- prints

-- with a number: without the zeros before it and those that end its decimals, and always with a point
abbrev pub number_mixed : ℕ → List ℕ → ℕ
number_mixed print [] = print
number_mixed print (b ∷ s) =
    let p = decimal_parts (b ∷ s) in
    fold print_with (print_with (fold print_with print (behind_zeros p.0)) 46) (before_zeros p.1)

-- with a field's text
abbrev pub field_mixed : Form → ℕ → List ℕ → ℕ
field_mixed form.Text print s = fold print_with print s
field_mixed form.Number print s = number_mixed print s

-- with the field of a column, and its end
abbrev pub column_mixed : Form → ℕ → Option (List ℕ) → ℕ
column_mixed f print None = print_with print 256
column_mixed f print (Some s) = print_with (field_mixed f print s) 256

-- with the columns from the k-th on
abbrev pub row_mixed : List (List ℕ × Form) → ℕ → Placed → ℕ → ℕ
row_mixed [] k row print = print
row_mixed (c ∷ cs) k row print = row_mixed cs (k + 1) row (column_mixed c.1 print (field_at row k))

-- the print of a row, where the places of these columns are known
abbrev pub print_of : Table → Placed → Option ℕ
print_of t row = if length row.places == 0 then None else Some (row_mixed (constants_of t) 0 row START)
