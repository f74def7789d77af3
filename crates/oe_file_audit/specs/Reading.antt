-- What sources spell, and what is wrong with their lines.
use Rattle.std.specs.Prelude.{◌≡◌, ℕ, ◌==◌, Bool, List, [], ◌∷◌, ◌++◌, map, Option, Some, None, Result, Ok, Err}
use Rattle.std.specs.List.{fold, list_any}
use Rattle.oe_facts.specs.declared.tables.Fact.{Fact}
use Rattle.oe_facts.specs.declared.tables.Table.{Table}
use Rattle.oe_fields.specs.declared.fields.Format.{Format}
use Rattle.oe_columns.specs.declared.constants.Wanted.{Wanted}
use Rattle.oe_columns.specs.declared.prints.RowFact.{RowFact}
use Rattle.oe_earlier.specs.Traces.{Traced, no_rows, with_row, traced_together}
use Rattle.oe_earlier.specs.Keeping.{KeepsTraces}
use Rattle.oe_filelines.specs.Lines.{AreLines, AreAll}
use Rattle.oe_sources.specs.Dump.{dump_says, dump_faults}
use Rattle.oe_facts.specs.Table.{place_of}
use Rattle.oe_sources.specs.Fault.{Told, no_faults, with_each_fault}
use Rattle.oe_sources.specs.Tables.{table_says}
use Rattle.oe_sources.specs.Taken.{spelling}
use Rattle.oe_sources.specs.declared.ledgers.Taken as taken
use Rattle.oe_books.specs.Facts.{Facts, facts_by_table, with_apart}
use Rattle.oe_books.specs.Keeping.{Keeps}
use Rattle.oe_file_audit.specs.declared.reading.Entered.{Entered}
use Rattle.oe_file_audit.specs.declared.reading.Spelled.{Spelled}
use Rattle.oe_file_audit.specs.declared.reading.TableSource.{TableSource}
use Rattle.oe_file_audit.specs.declared.reading.Unread.{Unread}

abbrev pub facts_of : List RowFact → List Fact
facts_of rows = map (λ r. r.fact) rows

abbrev pub printed_by : Traced → Fact → Option ℕ → Traced
printed_by t f None = t
printed_by t f (Some print) = with_row t print f

-- a row's print more, where it has one
abbrev pub with_print : Traced → RowFact → Traced
with_print t r = printed_by t r.fact r.print

-- the rows' prints
abbrev pub prints_of : List RowFact → Traced
prints_of rows = fold with_print no_rows rows

-- the books are of these rows' facts, and what is compared is of their prints; `given` is the number of first orders
-- that the caller gave
pub record Holds (given : Option ℕ) (e : Entered) (rows : List RowFact) : Type 0 where
  pub books : Keeps given (facts_by_table (facts_of rows)) e.books
  pub traces : KeepsTraces (prints_of rows) e.traces

-- of the rows of both, where the others are of tables that stand apart
pub record HoldsBoth (one other both : Entered) : Type 0 where
  pub books : (given own : Option ℕ) (t u : Facts) → Keeps given t one.books → Keeps own u other.books
      → Keeps given (with_apart t u) both.books
  pub traces : (t u : Traced) → KeepsTraces t one.traces → KeepsTraces u other.traces
      → KeepsTraces (traced_together t u) both.traces

abbrev pub HoldsSome : Option ℕ → Entered → Type 0
HoldsSome given e = (rows : List RowFact) × Holds given e rows

-- Of the bytes that a reader had left the lines of a table spell these facts and prints, in order, and these are their
-- faults.
pub record TableSpells (old : Option (List ℕ)) (t : Table) (wanted : Wanted) (format : Format) (facts : List RowFact)
    (faults : Told) : Type 0 where
  pub new : Option (List ℕ)
  pub bytes : List ℕ
  pub lines : List (List ℕ)
  pub all : AreAll old new bytes
  pub are_lines : AreLines bytes lines
  pub facts_are : map spelling facts ≡ (table_says t wanted format lines).rows
  pub faults_are : faults ≡ with_each_fault (table_says t wanted format lines).faults no_faults

-- the same of a dump
pub record DumpSpells (wanted : Wanted) (old : Option (List ℕ)) (facts : List RowFact) (faults : Told) : Type 0
  where
    pub new : Option (List ℕ)
    pub bytes : List ℕ
    pub lines : List (List ℕ)
    pub all : AreAll old new bytes
    pub are_lines : AreLines bytes lines
    pub facts_are : map spelling facts ≡ (dump_says wanted lines).rows
    pub faults_are : faults ≡ with_each_fault (dump_faults (dump_says wanted lines)) no_faults

module _ {S : Type 0} (remaining : S → Option (List ℕ)) (wanted : Wanted) (format : Format) where
  -- what the sources of tables spell, one after another
  pub data TablesSpell : List (TableSource S) → List RowFact → List Told → Type 0 where
    none : TablesSpell [] [] []
    more : (sources : List (TableSource S)) (facts : List RowFact) (told : List Told) → TablesSpell sources facts told
        → (s : TableSource S) (own : List RowFact) (faults : Told)
        → TableSpells (remaining s.source) s.table wanted format own faults
        → TablesSpell (sources ++ s ∷ []) (facts ++ own) (told ++ faults ∷ [])

  -- the sources were read to their ends, and the books are of all facts and prints
  abbrev pub TablesRead : (given : Option ℕ) → List (TableSource S) → Spelled → Type 0
  TablesRead given sources spelled =
      (facts : List RowFact) × TablesSpell sources facts spelled.faults.items × Holds given spelled.entered facts

  -- the source of a table was read to its end by itself, and its own books are of its facts and prints
  abbrev pub ReadAlone : TableSource S → taken.Taken Entered → Type 0
  ReadAlone s told =
      (own : List RowFact) × TableSpells (remaining s.source) s.table wanted format own told.faults
      × Holds (Some 0) told.ledger own

-- one of these sources is of that table
abbrev pub has_source : {S : Type 0} → List (TableSource S) → Table → Bool
has_source sources t = list_any (λ s. place_of s.table == place_of t) sources

-- what was read by itself is taken in behind
abbrev pub IsBehind : Spelled → taken.Taken Entered → Spelled → Type 0
IsBehind so_far own both =
    HoldsBoth so_far.entered own.ledger both.entered × (both.faults.items ≡ so_far.faults.items ++ own.faults ∷ [])

-- both were read, and the one is taken in behind the other
abbrev pub PutBehind : Result Spelled Unread → Result (taken.Taken Entered) Unread → Spelled → Type 0
PutBehind (Ok so_far) (Ok own) both = IsBehind so_far own both
PutBehind (Ok so_far) (Err unread) both = ⊥
PutBehind (Err unread) (Ok own) both = ⊥
PutBehind (Err unread) (Err other) both = ⊥

-- one of these sources was not read to its end, and it is named
abbrev pub StopsAt : {S : Type 0} → List (TableSource S) → Unread → Type 0
StopsAt {S} sources unread =
    (before : List (TableSource S)) × (s : TableSource S) × (behind : List (TableSource S))
    × (sources ≡ before ++ s ∷ behind) × (unread.table ≡ Some s.table)

-- a dump was read to its end, and the books are of all facts
abbrev pub DumpRead : Wanted → (given : Option ℕ) → Option (List ℕ) → Spelled → Type 0
DumpRead wanted given old s =
    (facts : List RowFact) × (faults : Told) × DumpSpells wanted old facts faults × (s.faults.items ≡ faults ∷ [])
    × Holds given s.entered facts
