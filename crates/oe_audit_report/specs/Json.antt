-- The report of an audit, as one JSON object. All strings are names of ours in ASCII.
use Rattle.std.specs.Prelude.{ℕ, ◌-◌, Bool, not, List, ◌++◌, length, map, sum, Option, if◌then◌else◌, decimal, codes}
use Rattle.oe_facts.specs.Table.{name_of as table_name}
use Rattle.oe_books.specs.declared.findings.CheckFound.{CheckFound}
use Rattle.oe_books.specs.declared.findings.Finding.{Finding}
use Rattle.oe_books.specs.declared.findings.PartFound.{PartFound}
use Rattle.oe_books.specs.declared.findings.TableRows.{TableRows}
use Rattle.oe_audit_report.specs.declared.report.Counts.{Counts}
use Rattle.oe_audit_report.specs.Labels.{Names, name_of, label_of}
use Rattle.oe_audit_report.specs.Report.{findings_shown, fails, counts_of}
use Rattle.oe_audit_report.specs.Texts.{figure_text, string_text, comma_list}

-- items with a comma between two of them, and a text before and behind
abbrev pub listing : {X : Type 0} → (X → List ℕ) → List ℕ → List X → List ℕ → List ℕ
listing text before items behind = before ++ comma_list text items ++ behind

-- "<table>":<rows>
abbrev pub rows_member : TableRows → List ℕ
rows_member r = string_text (table_name r.table) ++ codes ":" ++ decimal r.rows

-- ],"first":<figure>,"second":<figure>}
abbrev pub figures_json : (money : Bool) → Finding → List ℕ
figures_json money f =
    codes "],\"first\":" ++ figure_text money f.apart.first ++ codes ",\"second\":"
    ++ figure_text money f.apart.second ++ codes "}"

-- {"key":[<number>,..],"first":<figure>,"second":<figure>}
abbrev pub finding_json : (money : Bool) → Finding → List ℕ
finding_json money f = codes "{\"key\":[" ++ comma_list decimal f.key ++ figures_json money f

-- {"row":"<row>","first":"<name>","second":"<name>","failing":<count>
abbrev pub part_head : Names → ℕ → List ℕ
part_head label n =
    codes "{\"row\":" ++ string_text label.0 ++ codes ",\"first\":" ++ string_text label.1 ++ codes ",\"second\":"
    ++ string_text label.2 ++ codes ",\"failing\":" ++ decimal n

-- the part's names, at how many rows it fails, and those that are shown
abbrev pub part_json : Option ℕ → PartFound → List ℕ
part_json first p =
    let label = label_of p.part in
    part_head label (length p.found.items)
    ++ listing (finding_json label.3) (codes ",\"rows\":[") (findings_shown first p.found.items) (codes "]}")

-- at how many rows parts fail
abbrev pub rows_failing : List PartFound → ℕ
rows_failing parts = sum (map (λ (p : PartFound). length p.found.items) parts)

abbrev pub truth_text : Bool → List ℕ
truth_text b = if b then codes "true" else codes "false"

-- {"name":"<check>","holds":<truth>,"failing":<count>
abbrev pub check_head : CheckFound → List ℕ
check_head c =
    codes "{\"name\":" ++ string_text (name_of c.check) ++ codes ",\"holds\":" ++ truth_text (not (fails c))
    ++ codes ",\"failing\":" ++ decimal (rows_failing c.parts.items)

-- the check's name, whether it holds, at how many rows it fails, and its parts
abbrev pub check_json : Option ℕ → CheckFound → List ℕ
check_json first c = check_head c ++ listing (part_json first) (codes ",\"parts\":[") c.parts.items (codes "]}")

-- ,"holds":<count>,"fails":<count>}
abbrev pub counts_tail : Counts → List ℕ
counts_tail n =
    codes ",\"holds\":" ++ decimal (n.all - n.failing) ++ codes ",\"fails\":" ++ decimal n.failing ++ codes "}\n"

-- the rows of each table, what each check finds, and how many checks hold and fail
unfoldable pub report_json : Option ℕ → List TableRows → List CheckFound → List ℕ
report_json first rows checks =
    listing rows_member (codes "{\"read\":{") rows (codes "},")
    ++ listing (check_json first) (codes "\"checks\":[") checks (codes "]")
    ++ counts_tail (counts_of checks)
