-- What is asked for, one after another, and what each is answered.
use Rattle.std.specs.Prelude.{◌≡◌, ◌⊎◌, List, ℕ}
use Rattle.oe_requests.specs.declared.replies.Reply.{Reply}
use Rattle.oe_requests.specs.declared.replies.QueryReply.{QueryReply}
use Rattle.oe_requests.specs.declared.refusals.Refusal.{Refusal}
use Rattle.oe_texts.specs.Reply.{reply_text, query_text}
use Rattle.oe_texts.specs.Refusal.{error_text}
use Rattle.oe_model.specs.System.{system}
use Rattle.oe_file_serial.specs.declared.lines.Asked.{Asked}
use Rattle.oe_file_serial.specs.declared.lines.Asked.TheVariants as asked
use Rattle.oe_file_serial.specs.InOrder.{Between, Commits, Refuses, Finds, Misses}

-- It is answered this text, and leaves that: a transaction commits, or is refused and has changed nothing; a query is
-- of the tables where it stands.
abbrev pub Answers : Between system → Asked → List ℕ → Between system → Type 0
Answers b (asked.Transaction t q) text b' =
    ((y : Reply) × Commits system b t q y b' × (text ≡ reply_text y))
    ⊎ ((e : Refusal) × Refuses system b t q e × (text ≡ error_text e) × (b' ≡ b))
Answers b (asked.Query q) text b' =
    (((f : QueryReply) × Finds system b.rows q f × (text ≡ query_text f))
    ⊎ ((e : Refusal) × Misses system b.rows q e × (text ≡ error_text e)))
    × (b' ≡ b)
