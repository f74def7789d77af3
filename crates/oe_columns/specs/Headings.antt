-- Where columns stand on a line: by their names in a heading, or in the order of a dump.
use Rattle.std.specs.Prelude.{ℕ, ◌+◌, ◌-◌, ◌==◌, ◌&&◌, ◌||◌, Bool, false, nat_le, List, [], ◌∷◌, ◌++◌, length, map}
use Rattle.std.specs.Prelude.{slice_index, slice_range, Option, Some, None, Result, Ok, Err, if◌then◌else◌}
use Rattle.std.specs.Char.{to_ascii_lowercase, is_ascii_alphabetic}
use Rattle.std.specs.Str.{bytes_eq}
use Rattle.oe_facts.specs.declared.tables.Table.{Table}
use Rattle.oe_columns.specs.declared.headings.Named.{Named}
use Rattle.oe_columns.specs.declared.headings.Named.TheVariants as stands
use Rattle.oe_columns.specs.declared.headings.LayoutFault.{LayoutFault}
use Rattle.oe_columns.specs.declared.headings.LayoutFault.TheVariants as fault
use Rattle.oe_columns.specs.Columns.{names_of, dump_places}

-- ---- names

abbrev pub behind_blanks : List ℕ → List ℕ
behind_blanks [] = []
behind_blanks (b ∷ s) = if b == 32 then behind_blanks s else b ∷ s

-- begins and ends with the same quote
abbrev pub is_quoted : List ℕ → Bool
is_quoted s =
    nat_le 2 (length s)
    && ((slice_index s 0 == 34 || slice_index s 0 == 96) && (slice_index s (length s - 1) == slice_index s 0))

abbrev pub without_quotes : List ℕ → List ℕ
without_quotes s = if is_quoted s then slice_range s 1 (length s - 1) else s

-- a name without the blanks before it and the quotes that it stands in
unfoldable pub bare : List ℕ → List ℕ
bare s = without_quotes (behind_blanks s)

-- the text is that name, in any case
unfoldable pub is_name : List ℕ → List ℕ → Bool
is_name name text = bytes_eq (map to_ascii_lowercase (bare text)) (map to_ascii_lowercase name)

-- ---- headings

-- the places of the fields that are that name, counted from n on
abbrev pub places_from : (name : List ℕ) → ℕ → List (List ℕ) → List ℕ
places_from name n [] = []
places_from name n (f ∷ fs) =
    if is_name name f then n ∷ places_from name (n + 1) fs else places_from name (n + 1) fs

-- one place, or none, or more
abbrev pub only : List ℕ → Named
only [] = stands.Missing
only (p ∷ []) = stands.Once p
only (p ∷ q ∷ ps) = stands.Twice

-- where a heading of these fields names a column
unfoldable pub column_place : List ℕ → List (List ℕ) → Named
column_place name fields = only (places_from name 0 fields)

-- the one place of a column
abbrev pub one_place : ℕ → Named → Result ℕ LayoutFault
one_place k stands.Missing = Err (fault.Missing k)
one_place k (stands.Once p) = Ok p
one_place k stands.Twice = Err (fault.Twice k)

infixl 10 ◌>>=◌
abbrev pub ◌>>=◌ : {A B : Type 0} → Result A LayoutFault → (A → Result B LayoutFault) → Result B LayoutFault
(Ok x) >>= f = f x
(Err e) >>= f = Err e

-- the places of the columns of these names from the k-th on, or the first that has not one
abbrev pub placed_from : List (List ℕ) → ℕ → List (List ℕ) → Result (List ℕ) LayoutFault
placed_from [] k fields = Ok []
placed_from (n ∷ ns) k fields = do
  p ← one_place k (column_place n fields)
  ps ← placed_from ns (k + 1) fields
  Ok (p ∷ ps)

-- the places of the columns in a heading of these fields
unfoldable pub heading_places : Table → List (List ℕ) → Result (List ℕ) LayoutFault
heading_places t fields = placed_from (names_of t) 0 fields

abbrev pub begins_with_letter : List ℕ → Bool
begins_with_letter [] = false
begins_with_letter (b ∷ s) = is_ascii_alphabetic b

-- a line is a heading if its first field begins with a letter
abbrev pub is_heading : List (List ℕ) → Bool
is_heading [] = false
is_heading (f ∷ fs) = begins_with_letter (bare f)

abbrev pub places_in_dump : ℕ → Option (List ℕ) → Result (List ℕ) LayoutFault
places_in_dump n None = Err (fault.Fields n)
places_in_dump n (Some places) = Ok places

-- the places of the columns, by the fields of a file's first line
unfoldable pub layout_of : Table → List (List ℕ) → Result (List ℕ) LayoutFault
layout_of t fields =
    if is_heading fields then heading_places t fields
    else places_in_dump (length fields) (dump_places t (length fields))

-- ---- how a heading is read

abbrev pub again : Named → ℕ → Named
again stands.Missing p = stands.Once p
again (stands.Once q) p = stands.Twice
again stands.Twice p = stands.Twice

abbrev pub named_by : Named → List ℕ → Named
named_by seen [] = seen
named_by seen (p ∷ ps) = named_by (again seen p) ps

-- these places in front
abbrev pub places_behind : List ℕ → Result (List ℕ) LayoutFault → Result (List ℕ) LayoutFault
places_behind ps (Ok qs) = Ok (ps ++ qs)
places_behind ps (Err e) = Err e
