-- How the lines of a file are written: as a dump prints them, or as comma-separated values.
use Rattle.std.specs.Prelude.{◌≡◌, ℕ, ◌-◌, ◌==◌, ◌&&◌, ◌||◌, Bool, false, nat_le, List, take, length, slice_index}
use Rattle.std.specs.Prelude.{codes}
use Rattle.std.specs.Prelude.{Option, Some, None, if◌then◌else◌}
use Rattle.oe_values.specs.Front.{after_of}
use Rattle.oe_rows.specs.declared.keys.Table.{Table}
use Rattle.oe_rows.specs.declared.keys.Table.TheVariants as table
use Rattle.oe_file_tables.specs.declared.formats.Format.{Format}
use Rattle.oe_file_tables.specs.declared.formats.Format.TheVariants as written
use Rattle.oe_file_tables.specs.Record.{line_of}

-- the line ends in a carriage return
abbrev pub is_returned : List ℕ → Bool
is_returned line = slice_index line (length line - 1) == 13

-- the text of a line: a line of comma-separated values may end in a carriage return, which is not of its text
abbrev pub text_in : Format → List ℕ → List ℕ
text_in written.Dump line = line
text_in written.Csv line = if is_returned line then take (length line - 1) line else line

abbrev pub is_letter : ℕ → Bool
is_letter b = (nat_le 65 b && nat_le b 90) || (nat_le 97 b && nat_le b 122)

abbrev pub or_else : Option (List ℕ) → List ℕ → List ℕ
or_else None s = s
or_else (Some r) s = r

-- the first field begins with a letter, which may stand in quotes
abbrev pub is_heading : List ℕ → Bool
is_heading text = is_letter (slice_index (or_else (after_of (codes "\"") text) text) 0)

-- The text of the n-th line is a heading: it names the columns, and is the first. A dump has none.
abbrev pub heads : Format → ℕ → List ℕ → Bool
heads written.Dump n text = false
heads written.Csv n text = (n == 1) && is_heading text

-- how many columns stand before the one that may be null: O_CARRIER_ID, OL_DELIVERY_D
abbrev pub null_place : Table → Option ℕ
null_place table.Order = Some 5
null_place table.OrderLine = Some 6
null_place t = None

-- The text of the n-th line spells a row of the table, if the line with a tab between its fields does.
abbrev pub spelled_as : {R : Type 0} → Format → Table → (ℕ → List ℕ → R → Type 0) → ℕ → List ℕ → R → Type 0
spelled_as written.Dump t spells = spells
spelled_as written.Csv t spells =
    λ n text r. (line : List ℕ) × (line_of (null_place t) text ≡ Some line) × spells n line r
