-- What commands do with the files that the system opened for them, or did not.
use Rattle.std.specs.Prelude.{◌≡◌, ◌⊎◌, ℕ, Bool, true, false, is_ok, List, Option, Some, None, Result, Ok, Err, IfOk}
use Rattle.std.specs.List.{list_all}
use Rattle.std.specs.declared.alloc.Global.{Global}
use Rattle.std.specs.declared.io.Error.{Error}
use Rattle.std.specs.declared.vec.Vec.{Vec}
use Rattle.oe_fields.specs.declared.fields.Format as fields
use Rattle.oe_fields.specs.declared.fields.Format.TheVariants as field_format
use Rattle.oe_file_audit.specs.Audits.{DumpAudited, TablesAudited}
use Rattle.oe_file_audit.specs.declared.audits.Options.{Options}
use Rattle.oe_file_audit.specs.declared.reading.TableSource.{TableSource}
use Rattle.oe_file_loading.specs.Files.{nine, reader_of, LacksMemory}
use Rattle.oe_file_loading.specs.declared.files.TableFile.{TableFile}
use Rattle.oe_numbers.specs.declared.forms.Form.{Form}
use Rattle.oe_command_line.specs.declared.options.AuditOptions.{AuditOptions}
use Rattle.oe_from.specs.Loads.{LoadFromRan}
use Rattle.oe_from.specs.declared.loads.Following.{Following}
use Rattle.oe_from.specs.Scripts.{ScriptFromRan}
use Rattle.oe_from.specs.Serials.{ComparisonFromRan, SerialFromRan}
use Rattle.oe_comparison.specs.Runs.{ComparisonRan}
use Rattle.oe_file_loading.specs.Loading.{Nine}
use Rattle.oe_file_loading.specs.declared.loading.Sources.{Sources}
use Rattle.oe_io.specs.Ports.{Source, Sink}
use Rattle.oe_file_tables.specs.declared.formats.Format.{Format}
use Rattle.oe_file_tables.specs.declared.formats.Format.TheVariants as format
use Rattle.oe_rows.specs.declared.keys.Table.{Table}
use Rattle.oe_rows.specs.declared.layouts.Layout.{Layout}
use Rattle.oe_script.specs.Hearing.{Heard}
use Rattle.oe_script.specs.Session.{ScriptHeard, ScriptRan}
use Rattle.oe_file_serial.specs.Verdicts.{SerialRan}
use Rattle.oe_file_serial.specs.declared.origins.Origin.TheVariants as origin
use Rattle.oe_answers.specs.Endings.{fault_status, EndsWith, EndsUnread, Comes, Tells}
use Rattle.oe_answers.specs.Said.{audit_options, field_format}
use Rattle.oe_answers.specs.Statuses.{following_status, script_status, script_from_status, serial_status}
use Rattle.oe_answers.specs.Statuses.{serial_from_status}
use Rattle.oe_answers.specs.Statuses.{comparison_status, comparison_from_status, audit_status}
use Rattle.oe_answers.specs.Notes.{following_note, script_from_note, serial_note, serial_from_note, comparison_note}
use Rattle.oe_answers.specs.Notes.{comparison_from_note, audit_note}
use Rattle.oe_answers.specs.declared.endings.Aim.{Aim}
use Rattle.oe_answers.specs.declared.endings.Aim.TheVariants as aim
use Rattle.oe_answers.specs.declared.folders.Audited.{Audited}
use Rattle.oe_answers.specs.declared.folders.Audited.TheVariants as audited

-- nothing is known of what is left to read of files that the system opened
abbrev pub nothing_known : Nine
nothing_known = record {
  warehouse = None;
  district = None;
  customer = None;
  history = None;
  new_order = None;
  order = None;
  order_line = None;
  item = None;
  stock = None;
}

abbrev pub are_open : {R F : Type 0} → Sources (TableFile R F) → Bool
are_open files = list_all (λ f. is_ok f.file) (nine files)

-- there was no memory to open one of nine files
abbrev pub LackMemory : {R F : Type 0} → Sources (TableFile R F) → Type 0
LackMemory files = (t : Table) × LacksMemory (reader_of files t).file

-- a status where not all nine files are open
abbrev pub IsClosed : {R F : Type 0} → Aim → Sources (TableFile R F) → Option ℕ → Type 0
IsClosed aim files None = are_open files ≡ true
IsClosed aim files (Some n) =
    ((n ≡ 2) × (are_open files ≡ false)) ⊎ ((n ≡ fault_status aim) × LackMemory files)

module _ {E : Type 0} (old new : Option Sink) where
  -- a script's file is open, and it was answered; or it is not, and nothing was written
  abbrev pub ScriptAnswered : {I : Type 0} → (I → Option Source) → Result I Error → Result I Error → Result ℕ E → Type 0
  ScriptAnswered source (Ok a) (Ok b) result =
      Comes (ScriptRan None (source a) (source b) old new) script_status result
  ScriptAnswered source (Ok a) (Err cause) result = ⊥
  ScriptAnswered source (Err cause) after result = (after ≡ Err cause) × (new ≡ old) × EndsWith 1 result

  abbrev pub ScriptExplained : {I : Type 0} → (List Heard → Type 0) → Type 0 → (I → Option Source) → Result I Error
      → Result I Error → Result ℕ E → Type 0
  ScriptExplained Known IsSilent source (Ok a) (Ok b) result =
      Comes (ScriptHeard None Known (source a) (source b) old new) script_status result
  ScriptExplained Known IsSilent source (Ok a) (Err cause) result = ⊥
  ScriptExplained Known IsSilent source (Err cause) after result =
      (after ≡ Err cause) × (new ≡ old) × IsSilent × EndsWith 1 result

module _ {E : Type 0} (old new told told' : Option Sink) where
  -- a command ended with this status, and neither wrote nor told anything on these outputs
  abbrev pub Silent : (ℕ → Type 0) → Result ℕ E → Type 0
  Silent Is result = (new ≡ old) × (told' ≡ told) × IfOk result Is

  -- nine files are all open, and this holds; or one is not, and nothing was read or written
  abbrev pub IfOpen : {R F : Type 0} → Aim → Sources (TableFile R F) → Type 0 → Result ℕ E → Type 0
  IfOpen aim files Then result =
      ((are_open files ≡ true) × Then) ⊎ Silent (λ n. IsClosed aim files (Some n)) result

  -- a script that begins opened: its file and the nine are open, and it was answered; or one is not
  abbrev pub OpenedAnswered : {I R F : Type 0} → (I → Option Source) → ℕ → Layout → Sources (TableFile R F)
      → Result I Error → Result I Error → Result ℕ E → Type 0
  OpenedAnswered source extents layout from (Ok a) (Ok b) result = IfOpen aim.Answers from
      (Tells (ScriptFromRan format.Dump nothing_known nothing_known extents layout (source a) (source b) old new)
      script_from_status script_from_note told told' result) result
  OpenedAnswered source extents layout from (Ok a) (Err cause) result = ⊥
  OpenedAnswered source extents layout from (Err cause) after result =
      (after ≡ Err cause) × Silent (λ n. n ≡ 1) result

  -- a load on a folder's tables: the nine are open, and it was written; or one is not
  abbrev pub FollowingAnswered : {R F : Type 0} → Sources (TableFile R F) → Following → Form → Result ℕ E → Type 0
  FollowingAnswered from f form result = IfOpen aim.Answers from
      (Tells (LoadFromRan format.Dump nothing_known nothing_known f form old new) following_status following_note
      told told' result)
      result

  -- FILES OF REPLIES

  abbrev pub Decided : List ℕ → Result ℕ E → Type 0
  Decided bytes result = Tells (SerialRan origin.Population bytes old new) serial_status serial_note told told' result

  abbrev pub DecidedFrom : {R F : Type 0} → Format → Sources (TableFile R F) → List ℕ → Result ℕ E → Type 0
  DecidedFrom format from bytes result = IfOpen aim.Judges from
      (Tells (SerialFromRan format nothing_known nothing_known bytes old new) serial_from_status
      serial_from_note told told' result)
      result

  abbrev pub Compared : {R F : Type 0} → Format → Sources (TableFile R F) → List ℕ → Result ℕ E → Type 0
  Compared format files bytes result = IfOpen aim.Judges files
      (Tells (ComparisonRan format origin.Population bytes nothing_known nothing_known old new) comparison_status
      comparison_note told told' result) result

  abbrev pub ComparedFrom : {R F : Type 0} → Format → Sources (TableFile R F) → Sources (TableFile R F) → List ℕ
      → Result ℕ E → Type 0
  ComparedFrom format from files bytes result = IfOpen aim.Judges from
      (IfOpen aim.Judges files
      (Tells (ComparisonFromRan format nothing_known nothing_known bytes nothing_known nothing_known old new)
      comparison_from_status comparison_from_note told told' result) result) result

  abbrev pub AnsweredOn : {R F : Type 0} → Format → Option (Sources (TableFile R F)) → Option (Sources (TableFile R F))
      → List ℕ → Result ℕ E → Type 0
  AnsweredOn format None None bytes result = Decided bytes result
  AnsweredOn format None (Some files) bytes result = Compared format files bytes result
  AnsweredOn format (Some from) None bytes result = DecidedFrom format from bytes result
  AnsweredOn format (Some from) (Some files) bytes result = ComparedFrom format from files bytes result

  -- the file of replies was read, and decided; or it could not be, and nothing was written
  abbrev pub SerialAnswered : {R F : Type 0} → Format → Option (Sources (TableFile R F))
      → Option (Sources (TableFile R F)) → Result (Vec ℕ Global) Error → Result ℕ E → Type 0
  SerialAnswered format from tables (Ok bytes) result = AnsweredOn format from tables bytes.items result
  SerialAnswered format from tables (Err cause) result = (new ≡ old) × (told' ≡ told) × EndsUnread cause result

  -- AUDITS

  -- the earlier files are open, if they are given, and the audit went on behind them; or they are not, or their folder
  -- can't be read
  abbrev pub BehindEarlier : {S : Type 0} → Option (Result (Option (Vec (TableSource S) Global)) Error)
      → (Option (List (TableSource S)) → Type 0) → Result ℕ E → Type 0
  BehindEarlier None Then result = Then None
  BehindEarlier (Some (Ok (Some sources))) Then result = Then (Some sources.items)
  BehindEarlier (Some (Ok None)) Then result = Silent (λ n. n ≡ 2) result
  BehindEarlier (Some (Err cause)) Then result = (new ≡ old) × (told' ≡ told) × EndsUnread cause result

  -- the files of all tables are open, and were audited; or they are not, or the folder can't be read
  abbrev pub FolderAnswered : {S : Type 0} → (S → Option (List ℕ)) → Options → fields.Format
      → Option (Result (Option (Vec (TableSource S) Global)) Error)
      → Result (Option (Vec (TableSource S) Global)) Error → Result ℕ E → Type 0
  FolderAnswered remaining options format before (Ok (Some sources)) result =
      BehindEarlier before
      (λ earlier. Tells (TablesAudited remaining options format earlier sources.items old new) audit_status
      (audit_note (Some format)) told told' result) result
  FolderAnswered remaining options format before (Ok None) result = Silent (λ n. n ≡ 2) result
  FolderAnswered remaining options format before (Err cause) result =
      (new ≡ old) × (told' ≡ told) × EndsUnread cause result

  -- the dump is open, and was audited; but no dump is of comma-separated values
  abbrev pub DumpAnsweredAs : {B : Type 0} → (B → Option (List ℕ)) → fields.Format → Options
      → Option (Result (Option (Vec (TableSource B) Global)) Error) → Option (List ℕ) → Result ℕ E → Type 0
  DumpAnsweredAs of_earlier field_format.Commas options before a result = Silent (λ n. n ≡ 2) result
  DumpAnsweredAs of_earlier field_format.Tabs options before a result =
      BehindEarlier before
      (λ earlier. Tells (DumpAudited of_earlier options earlier a old new) audit_status (audit_note None) told told'
      result) result

  abbrev pub DumpAnswered : {B S : Type 0} → (B → Option (List ℕ)) → (S → Option (List ℕ)) → fields.Format → Options
      → Option (Result (Option (Vec (TableSource B) Global)) Error) → Result S Error → Result ℕ E → Type 0
  DumpAnswered of_earlier remaining format options before (Ok a) result =
      DumpAnsweredAs of_earlier format options before (remaining a) result
  DumpAnswered of_earlier remaining format options before (Err cause) result =
      (new ≡ old) × (told' ≡ told) × EndsUnread cause result

  -- of either
  abbrev pub AuditAnswered : {F D : Type 0} → (F → Option (List ℕ)) → (D → Option (List ℕ)) → AuditOptions
      → Option (Result (Option (Vec (TableSource F) Global)) Error) → Audited F D → Result ℕ E → Type 0
  AuditAnswered of_file of_dump said before (audited.Folder sources) result =
      FolderAnswered of_file (audit_options said) (field_format said.separator) before sources result
  AuditAnswered of_file of_dump said before (audited.Dump source) result =
      DumpAnswered of_file of_dump (field_format said.separator) (audit_options said) before source result
