-- A text that waits, and is written.
use Rattle.std.proofs.Common.{◌≡◌, ℕ, List, [], ◌++◌, Option, Result, Ok, Err, subst}
use Rattle.std.proofs.lemmas.List.{append-nil}
use Rattle.oe_io.specs.Ports.{Sink, Sent, Streams}
use Rattle.oe_io.proofs.Streaming.{sent_as, sent_then, sent_waits, sent_cut, cut_as}

-- where nothing waited before it, and nothing waits behind it
pub streamed : {T E : Type 0} (old new : Option Sink) (waited waits text : List ℕ) (r : Result T E) → waits ≡ []
    → waited ≡ text → Streams old waited new waits [] r → Streams old [] new [] text r
streamed old new waited waits text (Ok x) none same s =
    subst (λ (w : List ℕ). Sent old [] new w text) none
    (sent_as old new [] waits (text ++ []) text (append-nil text)
    (sent_then old old new [] waited waits text [] (sent_waits old [] waited text same) s))
streamed old new waited waits text (Err e) none same s =
    cut_as old new [] (text ++ []) text (append-nil text)
    (sent_cut old old new [] waited text [] (sent_waits old [] waited text same) s)
