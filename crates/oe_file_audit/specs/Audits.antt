-- What an audit of files comes to.
use Rattle.std.specs.Prelude.{◌≡◌, ℕ, ◌==◌, true, false, Bool, List, [], ◌∷◌, length}
use Rattle.std.specs.Prelude.{Option, None, unwrap_or, Result, Ok, Err, if◌then◌else◌}
use Rattle.std.specs.declared.alloc.Global.{Global}
use Rattle.std.specs.declared.vec.Vec.{Vec}
use Rattle.oe_fields.specs.declared.fields.Format.{Format}
use Rattle.oe_fields.specs.declared.fields.Format.TheVariants.{Tabs}
use Rattle.oe_columns.specs.declared.constants.Wanted.{Wanted}
use Rattle.oe_columns.specs.declared.prints.RowFact.{RowFact}
use Rattle.oe_io.specs.Ports.{Sink, Sent, Cut}
use Rattle.oe_audit_report.specs.Report.{failing}
use Rattle.oe_audit_report.specs.Forms.{report_of}
use Rattle.oe_sources.specs.Fault.{Told}
use Rattle.oe_books.specs.declared.books.Books.{Books}
use Rattle.oe_books.specs.declared.findings.Results.{Results}
use Rattle.oe_books.specs.Facts.{facts_by_table}
use Rattle.oe_books.specs.Closing.{IsLacking}
use Rattle.oe_books.specs.Keeping.{Keeps, IsOfFirstDistrict}
use Rattle.oe_books.specs.Found.{AreResults}
use Rattle.oe_books.specs.Parts.{asked_checks}
use Rattle.oe_file_audit.specs.declared.audits.Options.{Options}
use Rattle.oe_file_audit.specs.declared.audits.Verdict.{Verdict}
use Rattle.oe_file_audit.specs.declared.audits.Verdict.TheVariants as verdict
use Rattle.oe_file_audit.specs.declared.audits.AuditFault.{AuditFault}
use Rattle.oe_file_audit.specs.declared.audits.AuditFault.TheVariants as fault
use Rattle.oe_file_audit.specs.declared.reading.TableSource.{TableSource}
use Rattle.oe_file_audit.specs.declared.reading.Unread.{Unread}
use Rattle.oe_file_audit.specs.Reading.{facts_of, prints_of, TablesSpell, StopsAt, DumpSpells}
use Rattle.oe_file_audit.specs.Earlier.{any_fault, asked_of, wanted_by, EarlierSpells, StopsBefore}

abbrev pub status_of : Verdict → ℕ
status_of verdict.Holds = 0
status_of verdict.Fails = 1
status_of (verdict.Unreadable faults) = 2
status_of (verdict.UnreadableBefore faults) = 2
status_of (verdict.Lacking lack) = 2

abbrev pub verdict_of : Results → Verdict
verdict_of r = if length (failing r.checks.items) == 0 then verdict.Holds else verdict.Fails

-- the books are of some rows' facts
abbrev pub KeepsSome : Option ℕ → Books → Type 0
KeepsSome given books = (rows : List RowFact) × Keeps given (facts_by_table (facts_of rows)) books

-- What checks find of these rows, and against these earlier ones, if there are any: the population had in each district
-- as many orders as is said, or else as many as the first district has customers.
pub record AreOf (options : Options) (earlier : Option (List RowFact)) (rows : List RowFact) (r : Results) : Type 0
  where
    pub each : ℕ
    pub of_the_first : IsOfFirstDistrict (facts_by_table (facts_of rows)).customers each
    pub results :
        AreResults (unwrap_or options.initial each) each (facts_by_table (facts_of rows))
        (prints_of (unwrap_or earlier []))
        (prints_of rows) (asked_checks (asked_of earlier)) r

module _ (options : Options) (old new : Option Sink) where
  -- the report of these rows was written, and this is its verdict; or it could not be made, or not be written whole
  abbrev pub Reports : Option (List RowFact) → List RowFact → Result Verdict AuditFault → Type 0
  Reports earlier rows (Ok v) =
      (r : Results) × AreOf options earlier rows r × Sent old [] new [] (report_of options.form options.first r)
      × (v ≡ verdict_of r)
  Reports earlier rows (Err fault.Write) =
      (r : Results) × AreOf options earlier rows r × Cut old [] new (report_of options.form options.first r)
  Reports earlier rows (Err fault.NoMemory) = new ≡ old
  Reports earlier rows (Err (fault.Unread unread)) = ⊥
  Reports earlier rows (Err (fault.UnreadBefore unread)) = ⊥

  -- What is judged of these rows: where a line has a fault, or the rows lack what no check can do without, that is
  -- said and nothing is written; else the report is.
  abbrev pub JudgesSound : Option (List RowFact) → List RowFact → Result Verdict AuditFault → Type 0
  JudgesSound earlier rows (Ok (verdict.Unreadable faults)) = ⊥
  JudgesSound earlier rows (Ok (verdict.UnreadableBefore faults)) = ⊥
  JudgesSound earlier rows (Ok (verdict.Lacking lack)) =
      IsLacking options.initial (facts_by_table (facts_of rows)) lack × (new ≡ old)
  JudgesSound earlier rows (Ok verdict.Holds) = Reports earlier rows (Ok verdict.Holds)
  JudgesSound earlier rows (Ok verdict.Fails) = Reports earlier rows (Ok verdict.Fails)
  JudgesSound earlier rows (Err e) = Reports earlier rows (Err e)

  abbrev pub JudgesFaults : List Told → Result Verdict AuditFault → Type 0
  JudgesFaults told (Ok (verdict.Unreadable faults)) = (faults.items ≡ told) × (new ≡ old)
  JudgesFaults told (Ok (verdict.UnreadableBefore faults)) = ⊥
  JudgesFaults told (Ok (verdict.Lacking lack)) = ⊥
  JudgesFaults told (Ok verdict.Holds) = ⊥
  JudgesFaults told (Ok verdict.Fails) = ⊥
  JudgesFaults told (Err e) = ⊥

  abbrev pub JudgesBy : (faulty : Bool) → Option (List RowFact) → List RowFact → List Told
      → Result Verdict AuditFault → Type 0
  JudgesBy true earlier rows told r = JudgesFaults told r
  JudgesBy false earlier rows told r = JudgesSound earlier rows r

  abbrev pub Judges : Option (List RowFact) → List RowFact → List Told → Result Verdict AuditFault → Type 0
  Judges earlier rows told r = JudgesBy (any_fault told) earlier rows told r

  module _ (IsSpelled : Wanted → List RowFact → List Told → Type 0) (Stops : Unread → Type 0) where
    -- Behind these earlier rows, if there are any, what sources spell was judged; or nothing was written, as there was
    -- no memory, or a source was not read to its end.
    abbrev pub EndsBehind : Option (List RowFact) → Result Verdict AuditFault → Type 0
    EndsBehind earlier (Ok v) =
        (rows : List RowFact) × (told : List Told) × IsSpelled (wanted_by (asked_of earlier)) rows told
        × Judges earlier rows told (Ok v)
    EndsBehind earlier (Err fault.Write) =
        (rows : List RowFact) × (told : List Told) × IsSpelled (wanted_by (asked_of earlier)) rows told
        × Judges earlier rows told (Err fault.Write)
    EndsBehind earlier (Err fault.NoMemory) = new ≡ old
    EndsBehind earlier (Err (fault.Unread unread)) = Stops unread × (new ≡ old)
    EndsBehind earlier (Err (fault.UnreadBefore unread)) = ⊥

    module _ (IsEarlier : Option (List RowFact) → List Told → Type 0) (StopsEarlier : Unread → Type 0) where
      -- The earlier sources have faults, which are told; or one was not read to its end; or they spell these rows, and
      -- the audit goes on. Without them it goes on too.
      pub data Ends : Result Verdict AuditFault → Type 0 where
        faulty : (earlier : Option (List RowFact)) (faults : Vec Told Global) → IsEarlier earlier faults.items
            → any_fault faults.items ≡ true → new ≡ old → Ends (Ok (verdict.UnreadableBefore faults))
        stopped : (unread : Unread) → StopsEarlier unread → new ≡ old → Ends (Err (fault.UnreadBefore unread))
        behind : (earlier : Option (List RowFact)) (told : List Told) → IsEarlier earlier told
            → any_fault told ≡ false → (r : Result Verdict AuditFault) → EndsBehind earlier r → Ends r

-- the audit of tables' sources
abbrev pub TablesAudited : {S : Type 0} → (S → Option (List ℕ)) → Options → Format → Option (List (TableSource S))
    → List (TableSource S) → Option Sink → Option Sink → Result Verdict AuditFault → Type 0
TablesAudited remaining options format before sources old new r =
    Ends options old new (λ wanted. TablesSpell remaining wanted format sources) (StopsAt sources)
    (EarlierSpells remaining format before) (StopsBefore before) r

-- what a dump spells
abbrev pub AreSpelled : Option (List ℕ) → Wanted → List RowFact → List Told → Type 0
AreSpelled before wanted rows told =
    (faults : Told) × DumpSpells wanted before rows faults × (told ≡ faults ∷ [])

-- the audit of a dump; earlier sources are files of tables, with tabs
abbrev pub DumpAudited : {B : Type 0} → (B → Option (List ℕ)) → Options → Option (List (TableSource B))
    → Option (List ℕ) → Option Sink → Option Sink → Result Verdict AuditFault → Type 0
DumpAudited remaining options earlier before old new r =
    Ends options old new (AreSpelled before) (λ unread. unread.table ≡ None)
    (EarlierSpells remaining Tabs earlier) (StopsBefore earlier) r
