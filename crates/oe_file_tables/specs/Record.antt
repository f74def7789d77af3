-- A record of a CSV file (RFC 4180), read as the line that has a tab between two fields.
use Rattle.std.specs.Prelude.{◌≡◌, ℕ, ◌-◌, ◌==◌, Bool, false, List, [], ◌∷◌, ◌++◌, codes}
use Rattle.std.specs.Prelude.{Option, Some, None, Result, Ok, Err, if◌then◌else◌}
use Rattle.std.specs.Option.{option_map}
use Rattle.oe_values.specs.Front.{◌>>=◌}
use Rattle.oe_file_tables.specs.declared.records.Within.{Within}
use Rattle.oe_file_tables.specs.declared.records.Within.TheVariants.{Start, Plain, Quoted, Quote}
use Rattle.oe_file_tables.specs.declared.records.Unread.{Unread}
use Rattle.oe_file_tables.specs.declared.records.Unread.TheVariants.{NoRecord, NoMemory}

-- how many columns stand before the one that may be null, behind one column more; none where it is passed
abbrev pub past_column : Option ℕ → Option ℕ
past_column None = None
past_column (Some n) = if n == 0 then None else Some (n - 1)

-- the next column may be null
abbrev pub may_be_null : Option ℕ → Bool
may_be_null None = false
may_be_null (Some n) = n == 0

-- the text of a field that has no byte and no quotes: a null, where the column may be null
abbrev pub empty_text : Option ℕ → List ℕ
empty_text before_null = if may_be_null before_null then codes "-" else []

-- a byte of a field, which is no tab
abbrev pub of_field : ℕ → Within → Option ℕ → Option (List ℕ × Within × Option ℕ)
of_field b within before_null = if b == 9 then None else Some (b ∷ [], within, before_null)

-- the end of a field, behind these bytes
abbrev pub field_ends : List ℕ → Option ℕ → Option (List ℕ × Within × Option ℕ)
field_ends s before_null = Some (s ++ 9 ∷ [], Start, past_column before_null)

-- What a byte adds to the line, and how the record stands behind it. Fields are parted by commas. One may stand in
-- quotes: in these a comma is of the field, and two quotes are one.
unfoldable pub step : ℕ → Within → Option ℕ → Option (List ℕ × Within × Option ℕ)
step b Start before_null =
    if b == 44 then field_ends (empty_text before_null) before_null
    else if b == 34 then Some ([], Quoted, before_null)
    else of_field b Plain before_null
step b Plain before_null =
    if b == 44 then field_ends [] before_null
    else if b == 34 then None
    else of_field b Plain before_null
step b Quoted before_null = if b == 34 then Some ([], Quote, before_null) else of_field b Quoted before_null
step b Quote before_null =
    if b == 44 then field_ends [] before_null
    else if b == 34 then Some (34 ∷ [], Quoted, before_null)
    else None

-- what the end of the record adds
abbrev pub at_end : Within → Option ℕ → Option (List ℕ)
at_end Start before_null = Some (empty_text before_null)
at_end Plain before_null = Some []
at_end Quoted before_null = None
at_end Quote before_null = Some []

-- the line of the fields that are left
abbrev pub line_from : List ℕ → Within → Option ℕ → Option (List ℕ)
line_from [] within before_null = at_end within before_null
line_from (b ∷ s) within before_null = do
  a ← step b within before_null
  option_map (λ l. a.0 ++ l) (line_from s a.1 a.2)

-- The line of a record's fields, with a tab between two. So many columns stand before the one that may be null.
abbrev pub line_of : Option ℕ → List ℕ → Option (List ℕ)
line_of before_null bytes = line_from bytes Start before_null

-- ---- how it is read

-- what a step makes of the line so far
abbrev pub line_onward : List ℕ → Option (List ℕ × Within × Option ℕ) → Option (List ℕ × Within × Option ℕ)
line_onward line None = None
line_onward line (Some a) = Some (line ++ a.0, a.1, a.2)

-- the record stands so now, or it is none, or there was no memory
abbrev pub ComesTo : {T : Type 0} → Option (List ℕ × Within × Option ℕ) → List ℕ → Within → Option ℕ → Result T Unread
    → Type 0
ComesTo wanted line within before_null (Ok x) = wanted ≡ Some (line, within, before_null)
ComesTo wanted line within before_null (Err NoRecord) = wanted ≡ None
ComesTo wanted line within before_null (Err NoMemory) = Unit {0}

-- it was made, or there is nothing to be made, or no memory
abbrev pub Makes : {A T : Type 0} → Option A → A → Result T Unread → Type 0
Makes wanted made (Ok x) = wanted ≡ Some made
Makes wanted made (Err NoRecord) = wanted ≡ None
Makes wanted made (Err NoMemory) = Unit {0}
