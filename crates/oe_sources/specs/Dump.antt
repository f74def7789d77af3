-- What the lines of a dump say: those of sections, and all others.
use Rattle.std.specs.Prelude.{ℕ, ◌==◌, List, [], ◌++◌, length, nat_lt, Option, Some, None}
use Rattle.std.specs.Prelude.{Result, Ok, Err, if◌then◌else◌}
use Rattle.oe_facts.specs.declared.tables.Table.{Table}
use Rattle.oe_fields.specs.declared.fields.Format.TheVariants.{Tabs, Commas}
use Rattle.oe_fields.specs.Parting.{fields_of}
use Rattle.oe_filelines.specs.Lines.{AreLines, AreAll}
use Rattle.oe_columns.specs.declared.constants.Wanted.{Wanted}
use Rattle.oe_columns.specs.declared.headings.LayoutFault.{LayoutFault}
use Rattle.oe_columns.specs.declared.prints.RowFact.{RowFact}
use Rattle.oe_columns.specs.Constants.{heading_constants, wanted_constants}
use Rattle.oe_columns.specs.Headings.{heading_places}
use Rattle.oe_sources.specs.declared.dumps.DumpLines as dump
use Rattle.oe_sources.specs.declared.faults.SourceFault.{SourceFault}
use Rattle.oe_sources.specs.declared.faults.Wrong.TheVariants as wrong
use Rattle.oe_sources.specs.declared.ledgers.Taken as taken
use Rattle.oe_sources.specs.declared.readings.Layout.{Layout}
use Rattle.oe_sources.specs.declared.readings.Layout.TheVariants.{Lost}
use Rattle.oe_sources.specs.declared.readings.Reading.{Reading}
use Rattle.oe_sources.specs.Fault.{no_faults}
use Rattle.oe_sources.specs.Name.{statement_of}
use Rattle.oe_sources.specs.Reading.{Says, Nothing, Fault, fault_says, known_by, step, long_says}
use Rattle.oe_sources.specs.Reading.{begun_at, between}
use Rattle.oe_sources.specs.Tables.{Read, begun_read, all_next, StandsBehind}
use Rattle.oe_sources.specs.Taken.{Got, faults_said}
use Rattle.oe_sources.specs.Text.{text_of}

-- where the columns of a section stand, by the names in its statement
abbrev pub stated_layout : Wanted → Table → List (List ℕ) → Result Layout LayoutFault
stated_layout wanted t names =
    known_by (heading_places t names) (wanted_constants wanted (heading_constants t names))

abbrev pub opened_by : Wanted → Table → List ℕ → Result Layout LayoutFault → Reading × Says
opened_by wanted t text (Ok layout) = (begun_at t wanted Tabs layout, Nothing)
opened_by wanted t text (Err e) = (begun_at t wanted Tabs Lost, fault_says (wrong.Layout e) text)

-- a section of the table is open, whose columns the statement names; where they can't be told, its lines are passed
-- over
abbrev pub section_of : Wanted → Table → List ℕ → List ℕ → Reading × Says
section_of wanted t columns text = opened_by wanted t text (stated_layout wanted t (fields_of Commas columns))

abbrev pub statement_by : Reading → List ℕ → Option (Table × List ℕ) → Reading × Says
statement_by r text None = (r, Nothing)
statement_by r text (Some s) = section_of r.wanted s.0 s.1 text

-- a line that stands in no section
unfoldable pub statement_step : Reading → List ℕ → Reading × Says
statement_step r text = statement_by r text (statement_of text)

-- the next line's text
unfoldable pub dump_step : Reading → List ℕ → Reading × Says
dump_step r text = if r.is_ended then statement_step r text else step r text

-- the next line, which is too long
abbrev pub dump_long : Reading → Says
dump_long r = if r.is_ended then Nothing else long_says r

-- the n-th line of a dump
unfoldable pub line_step : ℕ → Reading → List ℕ → Reading × Says
line_step n reading line =
    if nat_lt 65_536 (length line) then (reading, dump_long reading)
    else dump_step reading (text_of (n == 1) line)

-- what the end of a dump says: whether a section is not ended
abbrev pub end_says : Reading → Says
end_says r = if r.is_ended then Nothing else Fault wrong.NotEnded []

-- what the lines of a dump say
abbrev pub dump_says : Wanted → List (List ℕ) → Read
dump_says wanted lines = all_next line_step (begun_read (between wanted) 0) lines

-- the faults of a dump: those of its lines, and that of its end
abbrev pub dump_faults : Read → List SourceFault
dump_faults r = r.faults ++ faults_said r.reading.table r.count (end_says r.reading)

abbrev pub DumpTaken : {L B : Type 0} → (B → L → List RowFact → Type 0) → dump.DumpLines L → List (List ℕ)
    → dump.DumpLines L → Type 0
DumpTaken holds start ls now = StandsBehind line_step holds start.so_far ls now.so_far

-- A dump was read to its end: the ledger got exactly the facts and prints of the rows that the lines of its sections
-- spell, in order, and the faults are exactly those of its lines and its end.
abbrev pub DumpRead : {L B : Type 0} → (B → L → List RowFact → Type 0) → Wanted → L → Option (List ℕ)
    → taken.Taken L → Type 0
DumpRead holds wanted ledger old now =
    (new : Option (List ℕ)) × (bytes : List ℕ) × AreAll old new bytes × (ls : List (List ℕ)) × AreLines bytes ls
    × Got holds (record { ledger = ledger; faults = no_faults }) (dump_says wanted ls).rows
    (dump_faults (dump_says wanted ls)) now
