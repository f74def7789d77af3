-- The report on tables that are compared: a line for each that differs, and how many do.
use Rattle.std.specs.Prelude.{ℕ, ◌+◌, ◌-◌, ◌==◌, nat_lt, List, [], ◌∷◌, ◌++◌, length, codes, decimal, if◌then◌else◌}
use Rattle.oe_rows.specs.Key.{table_of, table_name}
use Rattle.oe_rows.specs.declared.keys.Table.{Table}
use Rattle.oe_rows.specs.declared.keys.Table.TheVariants as table
use Rattle.oe_rows.specs.declared.histories.History.{History}
use Rattle.oe_rows.specs.declared.keys.Key.{Key}
use Rattle.oe_texts.specs.Key.{key_text}
use Rattle.oe_comparison.specs.Names.{column_name}
use Rattle.oe_file_serial.specs.Verdicts.{serial_line}
use Rattle.oe_comparison.specs.Columns.{Other}
use Rattle.oe_comparison.specs.Differences.{Difference, Extra, Missing, Column}
use Rattle.oe_comparison.specs.Histories.{history_text}

-- lines, one for each table that differs
pub record Told : Type 0 where
  pub text : List ℕ
  pub count : ℕ

abbrev pub nothing_told : Told
nothing_told = record { text = codes ""; count = 0 }

-- a piece of a line more
abbrev pub with_piece : List ℕ → Told → Told
with_piece piece t = record { text = t.text ++ piece; count = t.count }

-- one line more
abbrev pub with_line : List ℕ → Told → Told
with_line line t = record { text = t.text ++ line; count = t.count + 1 }

-- <table and key>: no such row in this order
abbrev pub extra_line : Key → List ℕ
extra_line k = key_text k ++ codes ": no such row in this order\n"

-- <table and key>: no such row in the file
abbrev pub missing_line : Key → List ℕ
missing_line k = key_text k ++ codes ": no such row in the file\n"

-- <table and key>: <column> <its text in the file>, in this order <its text in the table>
abbrev pub column_front : Key → ℕ → List ℕ
column_front k place = key_text k ++ codes ": " ++ column_name (table_of k) place ++ codes " "

abbrev pub column_line : Key → Other → List ℕ
column_line k c = column_front k c.place ++ c.theirs ++ codes ", in this order " ++ c.ours ++ codes "\n"

-- the line of a row that differs
abbrev pub line_of : {K : Type 0} → (K → Key) → Difference K → List ℕ
line_of key_of (Extra k) = extra_line (key_of k)
line_of key_of (Missing k) = missing_line (key_of k)
line_of key_of (Column k c) = column_line (key_of k) c

-- with the line of the first of these, if there is one
abbrev pub with_first : {D : Type 0} → (D → List ℕ) → List D → Told → Told
with_first line [] t = t
with_first line (d ∷ ds) t = with_line (line d) t

-- <table> differs at <count> more, where more rows than one differ
abbrev pub more_line : Table → ℕ → List ℕ
more_line t n = table_name t ++ codes " differs at " ++ decimal (n - 1) ++ codes " more\n"

abbrev pub with_more : Table → ℕ → Told → Told
with_more t n told = if nat_lt 1 n then with_piece (more_line t n) told else told

-- the first row that differs, and how many more do
abbrev pub with_differences : {D : Type 0} → Table → (D → List ℕ) → List D → Told → Told
with_differences t line ds told = with_more t (length ds) (with_first line ds told)

-- <row>: more often in the file, or more often in this order
abbrev pub often_line : History → List ℕ → List ℕ
often_line h where_it_is = history_text h ++ codes ": more often in " ++ where_it_is ++ codes "\n"

-- the same of HISTORY rows, which differ where one stands more often on one side
abbrev pub history_line_of : Difference History → List ℕ
history_line_of (Extra h) = often_line h (codes "the file")
history_line_of (Missing h) = often_line h (codes "this order")
history_line_of (Column h c) = []

abbrev pub with_histories : List (Difference History) → Told → Told
with_histories ds t = with_differences table.History history_line_of ds t

-- same 9 of 9 tables, or differs in <count> of 9 tables
abbrev pub last_line : ℕ → List ℕ
last_line count =
    if count == 0 then codes "same 9 of 9 tables\n"
    else codes "differs in " ++ decimal count ++ codes " of 9 tables\n"

-- serial <count>, and the report on the tables
abbrev pub comparison_text : ℕ → Told → List ℕ
comparison_text n t = serial_line n ++ t.text ++ last_line t.count
