-- What a note's writer has done: it wrote all, or a beginning.
use Rattle.std.specs.Prelude.{◌⊎◌, ℕ, List, [], Option, Result, Ok, Err}
use Rattle.std.proofs.Common.{inl, inr}
use Rattle.oe_io.specs.Ports.{Sink, Sent, Cut, Streams}

pub told : {T E : Type 0} (old new : Option Sink) (text : List ℕ) (r : Result T E) → Streams old [] new [] text r
    → Sent old [] new [] text ⊎ Cut old [] new text
told old new text (Ok x) sent = inl sent
told old new text (Err e) cut = inr cut
