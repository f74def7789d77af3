-- What the lines of a source say, one after another: of a table's file, or of a dump.
use Rattle.std.specs.Prelude.{◌≡◌, ℕ, ◌+◌, ◌==◌, List, [], ◌∷◌, ◌++◌, length, nat_lt, Option, if◌then◌else◌}
use Rattle.oe_facts.specs.declared.tables.Table.{Table}
use Rattle.oe_fields.specs.declared.fields.Format.{Format}
use Rattle.oe_filelines.specs.Lines.{AreLines, AreAll}
use Rattle.oe_columns.specs.declared.constants.Wanted.{Wanted}
use Rattle.oe_columns.specs.declared.prints.RowFact.{RowFact}
use Rattle.oe_sources.specs.declared.faults.SourceFault.{SourceFault}
use Rattle.oe_sources.specs.declared.ledgers.Taken as taken
use Rattle.oe_sources.specs.declared.readings.Reading.{Reading}
use Rattle.oe_sources.specs.declared.lines.SoFar as lines
use Rattle.oe_sources.specs.declared.tables.TableLines as table
use Rattle.oe_sources.specs.Fault.{in_64_bits, no_faults}
use Rattle.oe_sources.specs.Reading.{Says, step, long_says, first_reading}
use Rattle.oe_sources.specs.Taken.{Got, Spelled, rows_said, faults_said}
use Rattle.oe_sources.specs.Text.{text_of}

-- what the lines said so far: how they are read now, how many lines came, the rows, and the faults
pub record Read : Type 0 where
  pub reading : Reading
  pub count : ℕ
  pub rows : List Spelled
  pub faults : List SourceFault

-- nothing was said yet
abbrev pub begun_read : Reading → ℕ → Read
begun_read reading count = record { reading = reading; count = count; rows = []; faults = [] }

-- what was said, with what the n-th line says
abbrev pub with_said : Read → ℕ → Reading × Says → Read
with_said r n s = record {
  reading = s.0;
  count = n;
  rows = r.rows ++ rows_said s.1;
  faults = r.faults ++ faults_said s.0.table n s.1;
}

-- What lines say where the n-th line is read so.
module _ (line_step : ℕ → Reading → List ℕ → Reading × Says) where
  -- the next line
  abbrev pub next : Read → List ℕ → Read
  next r line = with_said r (in_64_bits (r.count + 1)) (line_step (in_64_bits (r.count + 1)) r.reading line)

  -- these lines, one after another
  abbrev pub all_next : Read → List (List ℕ) → Read
  all_next r [] = r
  all_next r (line ∷ lines) = all_next (next r line) lines

  module _ {L B : Type 0} (holds : B → L → List RowFact → Type 0) (start : lines.SoFar L) where
    -- where reading stands behind lines that said this
    pub record Stands (r : Read) (now : lines.SoFar L) : Type 0 where
      pub reading : now.reading ≡ r.reading
      pub count : now.count ≡ r.count
      pub got : Got holds start.taken r.rows r.faults now.taken

    -- where reading stands behind these lines
    abbrev pub StandsBehind : List (List ℕ) → lines.SoFar L → Type 0
    StandsBehind ls now = Stands (all_next (begun_read start.reading start.count) ls) now

-- ---- a table's file

-- the n-th line of a table's file
unfoldable pub file_step : ℕ → Reading → List ℕ → Reading × Says
file_step n reading line =
    if nat_lt 65_536 (length line) then (reading, long_says reading) else step reading (text_of (n == 1) line)

-- what the lines of a table's file say
abbrev pub table_says : Table → Wanted → Format → List (List ℕ) → Read
table_says t wanted format lines = all_next file_step (begun_read (first_reading t wanted format) 0) lines

abbrev pub TableTaken : {L B : Type 0} → (B → L → List RowFact → Type 0) → table.TableLines L → List (List ℕ)
    → table.TableLines L → Type 0
TableTaken holds start ls now = StandsBehind file_step holds start.so_far ls now.so_far

-- A table's file was read to its end: the ledger got exactly the facts and prints of the rows that its lines spell, in
-- order, and the faults are exactly those of its lines.
abbrev pub TableRead : {L B : Type 0} → (B → L → List RowFact → Type 0) → Table → Wanted → Format → L → Option (List ℕ)
    → taken.Taken L → Type 0
TableRead holds t wanted format ledger old now =
    (new : Option (List ℕ)) × (bytes : List ℕ) × AreAll old new bytes × (ls : List (List ℕ)) × AreLines bytes ls
    × Got holds (record { ledger = ledger; faults = no_faults }) (table_says t wanted format ls).rows
    (table_says t wanted format ls).faults now
