-- What a file of replies and nine files of tables come to.
use Rattle.std.specs.Prelude.{◌≡◌, ◌≢◌, ℕ, ◌<◌, ◌⊎◌, Option, Result, Ok, Err, List, []}
use Rattle.oe_model.specs.Rows.{Rows}
use Rattle.oe_model.specs.System.{system}
use Rattle.oe_io.specs.Ports.{Sink, Sent, Cut}
use Rattle.oe_file_serial.specs.InOrder.{Between}
use Rattle.oe_file_serial.specs.Verdicts as serial
use Rattle.oe_file_serial.specs.Verdicts.{IsOfFile, IsDecided, verdict_text}
use Rattle.oe_file_serial.specs.declared.origins.Origin.{Origin}
use Rattle.oe_file_serial.specs.declared.verdicts.Verdict as replies
use Rattle.oe_file_serial.specs.declared.verdicts.Verdict.TheVariants as reply
use Rattle.oe_file_tables.specs.declared.faults.TableFault as line
use Rattle.oe_file_tables.specs.Fault as fault
use Rattle.oe_file_tables.specs.declared.formats.Format.{Format}
use Rattle.oe_file_loading.specs.Loading.{Nine}
use Rattle.oe_comparison.specs.Tables.{TablesCompared}
use Rattle.oe_comparison.specs.Texts.{Told, comparison_text}
use Rattle.oe_comparison.specs.declared.runs.Verdict.{Verdict}
use Rattle.oe_comparison.specs.declared.runs.Verdict.TheVariants as verdict
use Rattle.oe_comparison.specs.declared.runs.ComparisonFault.{ComparisonFault}
use Rattle.oe_comparison.specs.declared.runs.ComparisonFault.TheVariants as stop

abbrev pub status_of : Verdict → ℕ
status_of (verdict.Replies v) = serial.status_of v
status_of verdict.Same = 0
status_of (verdict.Differs count) = 1
status_of (verdict.Unreadable faults) = 2

-- n transactions are serial, and leave these rows
abbrev pub LeavesRows : Origin → List ℕ → ℕ → Rows → Type 0
LeavesRows o input n r =
    (ours : List ℕ) × (end : Between system) × IsOfFile o input (reply.Serial n) ours end × (r ≡ end.rows)

-- replies that are not serial, or lines of no form
abbrev pub IsOther : replies.Verdict → Type 0
IsOther (reply.Serial n) = ⊥
IsOther (reply.Differs number theirs last) = Unit {0}
IsOther (reply.Unreadable bad) = Unit {0}

-- the verdict on replies that are not serial was written, or a beginning of it
abbrev pub TellsOther : replies.Verdict → List ℕ → Option Sink → Option Sink → Result Verdict ComparisonFault → Type 0
TellsOther v ours old new (Ok (verdict.Replies w)) = (w ≡ v) × Sent old [] new [] (verdict_text v ours)
TellsOther v ours old new (Ok w) = ⊥
TellsOther v ours old new (Err stop.Write) = Cut old [] new (verdict_text v ours)
TellsOther v ours old new (Err f) = ⊥

-- the report was written, or a beginning of it
abbrev pub Tells : ℕ → Told → Option Sink → Option Sink → Result Verdict ComparisonFault → Type 0
Tells n told old new (Ok verdict.Same) = (told.count ≡ 0) × Sent old [] new [] (comparison_text n told)
Tells n told old new (Ok (verdict.Differs count)) =
    (told.count ≡ count) × (count ≢ 0) × Sent old [] new [] (comparison_text n told)
Tells n told old new (Ok v) = ⊥
Tells n told old new (Err stop.Write) = Cut old [] new (comparison_text n told)
Tells n told old new (Err f) = ⊥

-- the nine files have these lines and no fault
abbrev pub AreTold : Format → Nine → Nine → Rows → Told → Type 0
AreTold format before after r told =
    (faults : fault.Told line.TableFault) × TablesCompared format before after r faults told × (faults.count ≡ 0)

-- The lines of tables that differ were written behind the verdict on n replies; lines of the files can't be read, and
-- nothing was written; the files were not read to their ends, and nothing was written; or a beginning was written.
abbrev pub Compares : Format → ℕ → Rows → Nine → Nine → Option Sink → Option Sink → Result Verdict ComparisonFault
    → Type 0
Compares format n r before after old new (Ok (verdict.Replies v)) = ⊥
Compares format n r before after old new (Ok verdict.Same) =
    (told : Told) × AreTold format before after r told × (told.count ≡ 0) × Sent old [] new [] (comparison_text n told)
Compares format n r before after old new (Ok (verdict.Differs count)) =
    (told : Told) × AreTold format before after r told × (told.count ≡ count) × (count ≢ 0)
    × Sent old [] new [] (comparison_text n told)
Compares format n r before after old new (Ok (verdict.Unreadable faults)) =
    (told : Told) × TablesCompared format before after r faults told × (0 < faults.count) × (new ≡ old)
Compares format n r before after old new (Err (stop.Short s)) = ⊥
Compares format n r before after old new (Err (stop.Stopped s)) = new ≡ old
Compares format n r before after old new (Err stop.Write) =
    (told : Told) × AreTold format before after r told × Cut old [] new (comparison_text n told)

-- the verdict on replies that are not serial was written, or a beginning of it
abbrev pub TellsReplies : Origin → List ℕ → Option Sink → Option Sink → Result Verdict ComparisonFault → Type 0
TellsReplies o input old new (Ok (verdict.Replies v)) =
    (ours : List ℕ) × IsDecided o input v ours × IsOther v × Sent old [] new [] (verdict_text v ours)
TellsReplies o input old new (Ok v) = ⊥
TellsReplies o input old new (Err stop.Write) =
    (v : replies.Verdict) × (ours : List ℕ) × IsDecided o input v ours × IsOther v
    × Cut old [] new (verdict_text v ours)
TellsReplies o input old new (Err (stop.Short s)) = new ≡ old
TellsReplies o input old new (Err (stop.Stopped s)) = ⊥

-- The replies are not serial, or nothing was decided; or they are, and the tables at the end were compared.
abbrev pub ComparisonRan : Format → Origin → List ℕ → Nine → Nine → Option Sink → Option Sink
    → Result Verdict ComparisonFault → Type 0
ComparisonRan format o input before after old new result =
    TellsReplies o input old new result
    ⊎ ((n : ℕ) × (r : Rows) × LeavesRows o input n r × Compares format n r before after old new result)
