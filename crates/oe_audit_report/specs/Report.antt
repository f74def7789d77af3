-- The report of an audit, as lines.
use Rattle.std.specs.Prelude.{ℕ, ◌-◌, ◌==◌, Bool, true, false, ◌||◌, List, [], ◌∷◌, ◌++◌, length, take, nat_lt}
use Rattle.std.specs.Prelude.{Option, Some, None, if◌then◌else◌, decimal, codes, ℤ}
use Rattle.std.specs.List.{flat_map, filter}
use Rattle.oe_facts.specs.Table.{name_of as table_name}
use Rattle.oe_books.specs.declared.parts.Check.{Check}
use Rattle.oe_books.specs.declared.findings.CheckFound.{CheckFound}
use Rattle.oe_books.specs.declared.findings.Finding.{Finding}
use Rattle.oe_books.specs.declared.findings.PartFound.{PartFound}
use Rattle.oe_books.specs.declared.findings.TableRows.{TableRows}
use Rattle.oe_audit_report.specs.declared.report.Counts.{Counts}
use Rattle.oe_audit_report.specs.Labels.{Names, name_of, label_of}
use Rattle.oe_audit_report.specs.Texts.{figure_text, number_text}

-- a table's name and how many rows it has
abbrev pub rows_text : TableRows → List ℕ
rows_text r = codes " " ++ table_name r.table ++ codes " " ++ decimal r.rows

-- read warehouse <rows> district <rows> ..
abbrev pub read_line : List TableRows → List ℕ
read_line rows = codes "read" ++ flat_map rows_text rows ++ codes "\n"

-- behind a blank, where it is not empty
abbrev pub behind_blank : List ℕ → List ℕ
behind_blank row = if length row == 0 then [] else codes " " ++ row

-- <check> fails <row>
abbrev pub failure_text : Check → Names → List ℕ
failure_text check label = name_of check ++ codes " fails" ++ behind_blank label.0

-- <name> <figure>
abbrev pub named_figure : List ℕ → (money : Bool) → ℤ → List ℕ
named_figure name money n = name ++ codes " " ++ figure_text money n

-- <check> fails <row> <key>: <name> <figure>, <name> <figure>
abbrev pub row_line : Check → Names → Finding → List ℕ
row_line check label f =
    failure_text check label ++ flat_map (number_text 32) f.key ++ codes ": "
    ++ named_figure label.1 label.3 f.apart.first ++ codes ", "
    ++ named_figure label.2 label.3 f.apart.second ++ codes "\n"

-- the first rows, or all
abbrev pub findings_shown : Option ℕ → List Finding → List Finding
findings_shown None found = found
findings_shown (Some first) found = take first found

-- <check> fails at <count> more, where there are more
abbrev pub more_line : Check → Names → ℕ → List ℕ
more_line check label n =
    if n == 0 then [] else failure_text check label ++ codes " at " ++ decimal n ++ codes " more\n"

-- the rows of a part that are shown, and how many more there are
abbrev pub part_text : Option ℕ → Check → PartFound → List ℕ
part_text first check p =
    flat_map (row_line check (label_of p.part)) (findings_shown first p.found.items)
    ++ more_line check (label_of p.part) (length p.found.items - length (findings_shown first p.found.items))

-- a part finds something
abbrev pub finds : PartFound → Bool
finds p = nat_lt 0 (length p.found.items)

-- a check fails where one of its parts finds something
abbrev pub any_finds : List PartFound → Bool
any_finds [] = false
any_finds (p ∷ ps) = finds p || any_finds ps

abbrev pub fails : CheckFound → Bool
fails c = any_finds c.parts.items

-- <check> holds, where it does
abbrev pub holds_line : CheckFound → List ℕ
holds_line c = if fails c then [] else name_of c.check ++ codes " holds\n"

-- <check> holds, or the rows at which it fails
abbrev pub check_text : Option ℕ → CheckFound → List ℕ
check_text first c = flat_map (part_text first c.check) c.parts.items ++ holds_line c

abbrev pub before_name : (first : Bool) → List ℕ
before_name first = if first then codes ": " else codes ", "

-- the names of these checks
abbrev pub names_text : (first : Bool) → List CheckFound → List ℕ
names_text first [] = []
names_text first (c ∷ cs) = before_name first ++ name_of c.check ++ names_text false cs

abbrev pub failing : List CheckFound → List CheckFound
failing checks = filter fails checks

-- holds <count> of <count> checks, or fails <count> of <count> checks
abbrev pub count_line : Counts → List ℕ
count_line n =
    (if n.failing == 0 then codes "holds " ++ decimal n.all else codes "fails " ++ decimal n.failing) ++ codes " of "
    ++ decimal n.all ++ codes " checks"

abbrev pub counts_of : List CheckFound → Counts
counts_of checks = record { failing = length (failing checks); all = length checks }

-- how many checks fail, and their names
abbrev pub last_line : List CheckFound → List ℕ
last_line checks =
    count_line (counts_of checks) ++ names_text true (failing checks) ++ codes "\n"

-- the rows of each table, what each check finds, and how many checks fail
unfoldable pub report_text : Option ℕ → List TableRows → List CheckFound → List ℕ
report_text first rows checks = read_line rows ++ flat_map (check_text first) checks ++ last_line checks
