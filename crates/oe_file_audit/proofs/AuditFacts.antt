-- What an audit comes to.
use Rattle.std.proofs.Common.{◌≡◌, ℕ, Bool, true, false, cond, List, [], length, sym, ◌∙◌, eqb, refl, subst}
use Rattle.std.proofs.Common.{Option, Result, Ok, Err, Vec, Global}
use Rattle.std.proofs.lemmas.Bool.{eq-eqb, ne_eqb}
use Rattle.std.specs.Prelude.{unwrap_or}
use Rattle.oe_columns.specs.declared.constants.Wanted.{Wanted}
use Rattle.oe_columns.specs.declared.prints.RowFact.{RowFact}
use Rattle.oe_io.specs.Ports.{Sink}
use Rattle.oe_sources.specs.Fault.{Told}
use Rattle.oe_books.specs.Closing.{IsReady}
use Rattle.oe_books.specs.declared.closing.Lack.{Lack}
use Rattle.oe_books.specs.declared.parts.Asked.{Asked}
use Rattle.oe_books.specs.Facts.{facts_by_table}
use Rattle.oe_books.specs.Found.{AreResults, initial_of}
use Rattle.oe_books.specs.Parts.{asked_checks}
use Rattle.oe_books.specs.declared.closing.Settled.{Settled}
use Rattle.oe_books.specs.declared.findings.Results.{Results}
use Rattle.oe_audit_report.specs.Report.{failing}
use Rattle.oe_file_audit.specs.declared.audits.Options.{Options}
use Rattle.oe_file_audit.specs.declared.audits.Verdict.TheVariants as verdict
use Rattle.oe_file_audit.specs.declared.audits.Verdict.{Verdict}
use Rattle.oe_file_audit.specs.declared.audits.AuditFault.{AuditFault}
use Rattle.oe_file_audit.specs.declared.audits.AuditFault.TheVariants as fault
use Rattle.oe_file_audit.specs.declared.reading.Unread.{Unread}
use Rattle.oe_file_audit.specs.Reading.{facts_of, prints_of}
use Rattle.oe_file_audit.specs.Earlier.{any_fault, asked_of, wanted_by}
use Rattle.oe_file_audit.specs.Audits.{AreOf, verdict_of, Reports, JudgesSound, JudgesBy, Judges, EndsBehind}

-- ---- the report

module _ (options : Options) (earlier : Option (List RowFact)) (rows : List RowFact) (s : Settled)
    (ready : IsReady options.initial (facts_by_table (facts_of rows)) s) (asked : Asked) (is : asked ≡ asked_of earlier)
    (r : Results)
    (found : AreResults (initial_of s) s.each (facts_by_table (facts_of rows)) (prints_of (unwrap_or earlier []))
    (prints_of rows) (asked_checks asked) r) where
  pub are_of : AreOf options earlier rows r
  are_of = record {
    each = s.each;
    of_the_first = ready.each;
    results =
        subst (λ n. AreResults n s.each (facts_by_table (facts_of rows)) (prints_of (unwrap_or earlier []))
        (prints_of rows)
        (asked_checks (asked_of earlier)) r) ready.initial
        (subst (λ a. AreResults (initial_of s) s.each (facts_by_table (facts_of rows))
        (prints_of (unwrap_or earlier []))
        (prints_of rows) (asked_checks a) r) is found);
  }

pub all_hold : (r : Results) (n : ℕ) → n ≡ length (failing r.checks.items) → n ≡ 0 → verdict.Holds ≡ verdict_of r
all_hold r n e none =
    let no : eqb (length (failing r.checks.items)) 0 ≡ true = eq-eqb _ 0 (sym e ∙ none) in rw no refl

pub some_fails : (r : Results) (n : ℕ) → n ≡ length (failing r.checks.items) → (n ≡ 0 → ⊥)
    → verdict.Fails ≡ verdict_of r
some_fails r n e some =
    let yes : eqb (length (failing r.checks.items)) 0 ≡ false = ne_eqb _ 0 (λ none. some (e ∙ none)) in rw yes refl

-- ---- what is judged

no_unreadable : (faults : Vec Told Global) (b : Bool) → verdict.Unreadable faults ≡ cond b verdict.Holds verdict.Fails
    → ⊥
no_unreadable faults true e = cc
no_unreadable faults false e = cc

no_unreadable_before : (faults : Vec Told Global) (b : Bool)
    → verdict.UnreadableBefore faults ≡ cond b verdict.Holds verdict.Fails → ⊥
no_unreadable_before faults true e = cc
no_unreadable_before faults false e = cc

no_lack : (lack : Lack) (b : Bool) → verdict.Lacking lack ≡ cond b verdict.Holds verdict.Fails → ⊥
no_lack lack true e = cc
no_lack lack false e = cc

module _ (options : Options) (old new : Option Sink) (earlier : Option (List RowFact)) (rows : List RowFact) where
  pub reports_sound : (r : Result Verdict AuditFault) → Reports options old new earlier rows r
      → JudgesSound options old new earlier rows r
  reports_sound (Ok verdict.Holds) p = p
  reports_sound (Ok verdict.Fails) p = p
  reports_sound (Ok (verdict.Unreadable faults)) p =
      absurd (no_unreadable faults (eqb (length (failing p.0.checks.items)) 0) p.3)
  reports_sound (Ok (verdict.UnreadableBefore faults)) p =
      absurd (no_unreadable_before faults (eqb (length (failing p.0.checks.items)) 0) p.3)
  reports_sound (Ok (verdict.Lacking lack)) p = absurd (no_lack lack (eqb (length (failing p.0.checks.items)) 0) p.3)
  reports_sound (Err e) p = p

  module _ (told : List Told) where
    pub judged_sound : (r : Result Verdict AuditFault) → any_fault told ≡ false
        → JudgesSound options old new earlier rows r → Judges options old new earlier rows told r
    judged_sound r sound judged =
        subst (λ faulty. JudgesBy options old new faulty earlier rows told r) (sym sound) judged

    quiet : (faulty : Bool) → JudgesBy options old new faulty earlier rows told (Err fault.NoMemory) → new ≡ old
    quiet true judged = absurd judged
    quiet false judged = judged

    never : (unread : Unread) (faulty : Bool)
        → JudgesBy options old new faulty earlier rows told (Err (fault.Unread unread)) → ⊥
    never unread true judged = judged
    never unread false judged = judged

    never_before : (unread : Unread) (faulty : Bool)
        → JudgesBy options old new faulty earlier rows told (Err (fault.UnreadBefore unread)) → ⊥
    never_before unread true judged = judged
    never_before unread false judged = judged

    -- what sources spell, and what is judged of it
    pub ends : (IsSpelled : Wanted → List RowFact → List Told → Type 0) (Stops : Unread → Type 0)
        (r : Result Verdict AuditFault)
        → IsSpelled (wanted_by (asked_of earlier)) rows told → Judges options old new earlier rows told r
        → EndsBehind options old new IsSpelled Stops earlier r
    ends IsSpelled Stops (Ok v) spelled judged = (rows, told, spelled, judged)
    ends IsSpelled Stops (Err fault.Write) spelled judged = (rows, told, spelled, judged)
    ends IsSpelled Stops (Err fault.NoMemory) spelled judged = quiet (any_fault told) judged
    ends IsSpelled Stops (Err (fault.Unread unread)) spelled judged = absurd (never unread (any_fault told) judged)
    ends IsSpelled Stops (Err (fault.UnreadBefore unread)) spelled judged =
        absurd (never_before unread (any_fault told) judged)
