-- What is written of a verdict.
use Rattle.std.proofs.Common.{◌≡◌, ℕ, List, [], Option, Result, Ok, Err}
use Rattle.oe_io.specs.Ports.{Sink, Streams}
use Rattle.oe_io.proofs.Streaming.{all_sent, front_sent}
use Rattle.oe_file_serial.specs.Verdicts.{IsShort, IsDecided}
use Rattle.oe_file_serial.specs.declared.origins.Origin.{Origin}
use Rattle.oe_file_serial.specs.declared.verdicts.Verdict.{Verdict}
use Rattle.oe_file_serial.specs.declared.verdicts.Verdict.TheVariants as verdict
use Rattle.oe_file_serial.proofs.LineFacts.{words_short}

pub streamed : {T E : Type 0} (old new : Option Sink) (waited waits text : List ℕ) (r : Result T E) → waits ≡ []
    → waited ≡ text → Streams old waited new waits [] r → Streams old [] new [] text r
streamed old new waited waits text (Ok x) none same s = all_sent old new waited waits text none same s
streamed old new waited waits text (Err e) none same s = front_sent old new waited text same s

-- the text that a line tells
pub is_short : (o : Origin) (input ours : List ℕ) (v : Verdict) → IsDecided o input v ours → IsShort v
is_short o input ours (verdict.Serial n) d = tt
is_short o input ours (verdict.Differs number theirs last) d =
    let tells = d.1.is_verdict.differs.2 in
    (words_short d.1.is_verdict.line tells.words theirs.now 1_024 tells.parts tells.short).1
is_short o input ours (verdict.Unreadable bad) d = tt
