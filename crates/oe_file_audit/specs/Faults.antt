-- The lines that tell what is wrong with sources.
use Rattle.std.specs.Prelude.{ℕ, zero, suc, ◌-◌, ◌||◌, List, [], ◌∷◌, ◌++◌, map, nat_lt, slice_index}
use Rattle.std.specs.Prelude.{Option, Some, None}
use Rattle.std.specs.Prelude.{if◌then◌else◌, decimal, codes}
use Rattle.std.specs.List.{flat_map}
use Rattle.oe_facts.specs.Table.{name_of}
use Rattle.oe_facts.specs.declared.tables.Table.{Table}
use Rattle.oe_fields.specs.declared.fields.Format.{Format}
use Rattle.oe_columns.specs.Columns.{columns_of, names_of}
use Rattle.oe_columns.specs.Constants.{constant_names}
use Rattle.oe_columns.specs.declared.columns.Kind.{Kind}
use Rattle.oe_columns.specs.declared.columns.Kind.TheVariants as kind
use Rattle.oe_columns.specs.declared.headings.LayoutFault.TheVariants as layout
use Rattle.oe_sources.specs.declared.faults.SourceFault.{SourceFault}
use Rattle.oe_sources.specs.declared.faults.Wrong.{Wrong}
use Rattle.oe_sources.specs.declared.faults.Wrong.TheVariants as wrong
use Rattle.oe_facts.specs.Table.{place_of}
use Rattle.oe_sources.specs.Fault.{Told}
use Rattle.oe_books.specs.declared.closing.Lack.{Lack}
use Rattle.oe_books.specs.declared.closing.Lack.TheVariants as lack
use Rattle.oe_books.specs.Closing.{tables}
use Rattle.oe_file_audit.specs.declared.causes.Cause.{Cause}
use Rattle.oe_file_audit.specs.declared.faults.Side.{Side}
use Rattle.oe_file_audit.specs.declared.faults.Side.TheVariants as side
use Rattle.oe_file_audit.specs.Causes.{cause_of, cause_name}

-- what stands before a table's name
abbrev pub side_text : Side → List ℕ
side_text side.Now = []
side_text side.Before = codes "before/"

abbrev pub table_text : Side → Table → List ℕ
table_text s t = side_text s ++ name_of t

abbrev pub name_or : List (List ℕ) → ℕ → List ℕ
name_or [] n = codes "?"
name_or (name ∷ names) zero = name
name_or (name ∷ names) (suc n) = name_or names n

abbrev pub kind_or : List (List ℕ × Kind) → ℕ → Kind
kind_or [] n = kind.Nullable
kind_or (c ∷ cs) zero = c.1
kind_or (c ∷ cs) (suc n) = kind_or cs n

-- the name of the column with this number among those that a fact needs and, behind them, those that no transaction
-- changes; and what the field of one of the first has to spell
abbrev pub name_at : Table → ℕ → List ℕ
name_at t n = name_or (names_of t ++ constant_names t) n

abbrev pub kind_at : Table → ℕ → Kind
kind_at t n = kind_or (columns_of t) n

abbrev pub wanted_text : Kind → List ℕ
wanted_text (kind.Number low high) = codes "a number from " ++ decimal low ++ codes " to " ++ decimal high
wanted_text kind.Quantity = codes "a whole number"
wanted_text kind.Amount = codes "an amount in cents"
wanted_text kind.Nullable = codes "a field"
wanted_text kind.Flag = codes "1 or 0"

-- a question mark in place of what can't be printed
abbrev pub printable_byte : ℕ → ℕ
printable_byte b = if nat_lt b 32 || nat_lt 126 b then 63 else b

abbrev pub shown_text : List ℕ → List ℕ
shown_text bytes = codes " \"" ++ map printable_byte bytes ++ codes "\""

abbrev pub wrong_by : Table → List ℕ → Wrong → List ℕ
wrong_by t shown (wrong.Misfit m) =
    name_at t m.column ++ shown_text shown ++ codes ": " ++ wanted_text (kind_at t m.column)
wrong_by t shown (wrong.Layout (layout.Missing n)) = codes "no column " ++ name_at t n ++ codes " in" ++ shown_text
    shown
wrong_by t shown (wrong.Layout (layout.Twice n)) =
    codes "twice the column " ++ name_at t n ++ codes " in" ++ shown_text shown
wrong_by t shown (wrong.Layout (layout.Fields n)) = decimal n ++ codes " fields, and no heading:" ++ shown_text shown
wrong_by t shown wrong.TooLong = codes "more than 65536 bytes"
wrong_by t shown wrong.PastEnd = codes "after the end of the rows:" ++ shown_text shown
wrong_by t shown (wrong.Miscount n) = codes "not the number of rows:" ++ shown_text shown
wrong_by t shown wrong.NotEnded = codes "the end of its section is missing"

-- what is wrong with a line
abbrev pub wrong_text : SourceFault → List ℕ
wrong_text f = wrong_by f.table f.text f.wrong

-- <table> line <number>: <what is wrong>
abbrev pub fault_line : Side → SourceFault → List ℕ
fault_line s f = table_text s f.table ++ codes " line " ++ decimal f.line ++ codes ": " ++ wrong_text f ++ codes "\n"

-- <table>: <count> more lines
abbrev pub more_line : Side → Table → ℕ → List ℕ
more_line s t n = table_text s t ++ codes ": " ++ decimal n ++ codes " more lines\n"

-- the line that tells of those behind the third, where there are more
abbrev pub more_text : Side → Table → ℕ → List ℕ
more_text s t n = if nat_lt 3 n then more_line s t (n - 3) else []

abbrev pub more_lines : Side → Told → List ℕ
more_lines s told = flat_map (λ t. more_text s t (slice_index told.counts (place_of t))) tables

-- <table>: <cause>
abbrev pub cause_text : Side → Table → Option Cause → List ℕ
cause_text s t None = []
cause_text s t (Some c) = table_text s t ++ codes ": " ++ cause_name c ++ codes "\n"

-- the likely cause, of a table's file with fields of a format
abbrev pub cause_line : Side → Option Format → List SourceFault → List ℕ
cause_line s None faults = []
cause_line s (Some format) [] = []
cause_line s (Some format) (f ∷ fs) = cause_text s f.table (cause_of format (f ∷ fs))

-- the faults of a source
abbrev pub source_text : Side → Option Format → Told → List ℕ
source_text s format told =
    flat_map (fault_line s) told.kept ++ more_lines s told ++ cause_line s format told.kept

-- what is not there
abbrev pub lack_line : Lack → List ℕ
lack_line (lack.Rows t) = name_of t ++ codes ": no row\n"
lack_line (lack.Room t) = name_of t ++ codes ": more than 4294967295 rows\n"
lack_line lack.Initial =
    codes "customers come after orders: --initial N says how many orders districts had\n"
