-- What a run comes to.
use Rattle.std.proofs.Common.{◌≡◌, ℕ, List, [], ◌++◌, Option, Result, Ok, Err, subst, sym}
use Rattle.oe_model.specs.Rows.{Rows}
use Rattle.oe_io.specs.Ports.{Sink, Sent, Streams}
use Rattle.oe_io.proofs.Streaming.{sent_then, sent_cut}
use Rattle.oe_store.specs.Places.{Places, rows}
use Rattle.oe_file_serial.specs.Verdicts.{IsDecided, IsDecision, verdict_of, verdict_text}
use Rattle.oe_file_serial.specs.declared.origins.Origin.{Origin}
use Rattle.oe_file_serial.specs.declared.verdicts.Decision.{Decision}
use Rattle.oe_file_serial.specs.declared.verdicts.Decision.TheVariants as decision
use Rattle.oe_file_serial.specs.declared.verdicts.Verdict as replies
use Rattle.oe_file_tables.specs.declared.formats.Format.{Format}
use Rattle.oe_file_loading.specs.Loading.{Nine}
use Rattle.oe_comparison.specs.Texts.{Told}
use Rattle.oe_comparison.specs.Runs.{LeavesRows, IsOther, TellsOther, Tells, AreTold, Compares, TellsReplies}
use Rattle.oe_comparison.specs.declared.runs.Verdict.{Verdict}
use Rattle.oe_comparison.specs.declared.runs.Verdict.TheVariants as verdict
use Rattle.oe_comparison.specs.declared.runs.ComparisonFault.{ComparisonFault}
use Rattle.oe_comparison.specs.declared.runs.ComparisonFault.TheVariants as stop

-- the rows that a serial file's transactions leave
pub leaves : (o : Origin) (input ours : List ℕ) (d : Decision) (n : ℕ) (t : Places) → d ≡ decision.Serial n t
    → IsDecision o input d ours → LeavesRows o input n (rows t)
leaves o input ours d n t is made =
    let so = subst (λ (z : Decision). IsDecision o input z ours) is made in
    (ours, so.0, so.1, so.2)

-- the verdict of a decision that is this
pub decided : (o : Origin) (input ours : List ℕ) (d e : Decision) → d ≡ e → IsDecision o input d ours
    → IsDecided o input (verdict_of e) ours
decided o input ours d e is made =
    let so = subst (λ (z : Decision). IsDecision o input z ours) is made in
    (so.0, so.1)

-- the report on tables, where they were compared
pub compares : (format : Format) (n : ℕ) (r : Rows) (before after : Nine) (old new : Option Sink) (told : Told)
    (result : Result Verdict ComparisonFault)
    → AreTold format before after r told → Tells n told old new result → Compares format n r before after old new result
compares format n r before after old new told (Ok (verdict.Replies v)) are t = t
compares format n r before after old new told (Ok verdict.Same) are t = (told, are, t.0, t.1)
compares format n r before after old new told (Ok (verdict.Differs count)) are t = (told, are, t.0, t.1, t.2)
compares format n r before after old new told (Ok (verdict.Unreadable faults)) are t = absurd t
compares format n r before after old new told (Err (stop.Short s)) are t = t
compares format n r before after old new told (Err (stop.Stopped s)) are t = absurd t
compares format n r before after old new told (Err stop.Write) are t = (told, are, t)

-- replies that are not serial
pub replies_told : (o : Origin) (input ours : List ℕ) (v : replies.Verdict) (old new : Option Sink)
    (result : Result Verdict ComparisonFault)
    → IsDecided o input v ours → IsOther v → TellsOther v ours old new result → TellsReplies o input old new result
replies_told o input ours v old new (Ok (verdict.Replies w)) made other t = (
  ours,
  subst (λ (z : replies.Verdict). IsDecided o input z ours) (sym t.0) made,
  subst IsOther (sym t.0) other,
  subst (λ (z : replies.Verdict). Sent old [] new [] (verdict_text z ours)) (sym t.0) t.1,
)
replies_told o input ours v old new (Ok verdict.Same) made other t = t
replies_told o input ours v old new (Ok (verdict.Differs count)) made other t = t
replies_told o input ours v old new (Ok (verdict.Unreadable faults)) made other t = t
replies_told o input ours v old new (Err stop.Write) made other t = (v, ours, made, other, t)
replies_told o input ours v old new (Err (stop.Short s)) made other t = absurd t
replies_told o input ours v old new (Err (stop.Stopped s)) made other t = t

-- what is written behind what was written
pub streams_behind : {T E : Type 0} (a b c : Option Sink) (t u : List ℕ) (r : Result T E) → Sent a [] b [] t
    → Streams b [] c [] u r → Streams a [] c [] (t ++ u) r
streams_behind a b c t u (Ok x) p q = sent_then a b c [] [] [] t u p q
streams_behind a b c t u (Err e) p q = sent_cut a b c [] [] t u p q
