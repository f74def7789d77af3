-- The lines that tell what is wrong with files.
use Rattle.std.specs.Prelude.{ℕ, ◌-◌, ◌==◌, List, [], ◌++◌, length, if◌then◌else◌, codes, decimal}
use Rattle.std.specs.List.{flat_map, join_with_byte}
use Rattle.oe_rows.specs.Key.{table_name}
use Rattle.oe_rows.specs.declared.keys.Table.{Table}
use Rattle.oe_file_rows.specs.declared.forms.LineFault.{LineFault}
use Rattle.oe_file_rows.specs.declared.forms.LineFault.TheVariants as line_fault
use Rattle.oe_texts.specs.Key.{key_texts}
use Rattle.oe_file_tables.specs.declared.faults.TableFault.{TableFault}
use Rattle.oe_file_tables.specs.declared.faults.Wrong.{Wrong}
use Rattle.oe_file_tables.specs.declared.faults.Wrong.TheVariants as wrong
use Rattle.oe_file_tables.specs.Fault.{Told}
use Rattle.oe_comparison.specs.Names.{column_names, column_name}
use Rattle.oe_comparison.specs.Forms.{form_text}

abbrev pub line_fault_text : Table → LineFault → List ℕ
line_fault_text t (line_fault.NoForm place form) = column_name t place ++ codes " is no " ++ form_text form
line_fault_text t (line_fault.MissingColumn place) = column_name t place ++ codes " is missing"
line_fault_text t line_fault.ExtraColumn = codes "more than " ++ decimal (length (column_names t)) ++ codes " columns"
line_fault_text t line_fault.NoKey = codes "past line 4294967295 a row has no key"

-- rows <count> behind <count> lines
abbrev pub miscount_text : ℕ → ℕ → List ℕ
miscount_text said line = codes "rows " ++ decimal said ++ codes " after " ++ decimal (line - 1) ++ codes " lines"

-- what is wrong with the line of that number
abbrev pub wrong_text : Table → ℕ → Wrong → List ℕ
wrong_text t line (wrong.NoRow fault) = line_fault_text t fault
wrong_text t line wrong.NoRecord = codes "no record: a quote where none is allowed, or a tab in a field"
wrong_text t line wrong.TooLong = codes "more than 4096 bytes"
wrong_text t line wrong.CarriageReturn = codes "ends in a carriage return; end lines in a line feed alone"
wrong_text t line (wrong.Twice k) = codes "twice the key " ++ join_with_byte 32 (key_texts k)
wrong_text t line (wrong.Miscount said) = miscount_text said line
wrong_text t line wrong.PastCount = codes "comes after the count of rows"

-- <table> line <number>: <what is wrong>
abbrev pub fault_line : TableFault → List ℕ
fault_line f =
    table_name f.table ++ codes " line " ++ decimal f.line ++ codes ": " ++ wrong_text f.table f.line f.wrong
    ++ codes "\n"

-- <count> more, where there are more
abbrev pub more_line : ℕ → List ℕ
more_line n = if n == 0 then [] else decimal n ++ codes " more\n"

-- a line for each fault that is kept, and how many there are besides
abbrev pub faults_text : Told TableFault → List ℕ
faults_text t = flat_map fault_line t.kept ++ more_line (t.count - length t.kept)
