-- The rule of the queue: of each sender, what was taken and then what is queued is what it submitted.
use Rattle.std.specs.Prelude.{◌≡◌, ◌≢◌, ◌⊎◌, ℕ, ◌+◌, ◌<◌, ◌≤◌, List, [], ◌∷◌, ◌++◌}
use mathlib.Core.Option.{some}
use lib.ListN.{get_elem?}
use Rattle.oe_queue.specs.declared.messages.Message.{Message}
use Rattle.oe_queue.specs.declared.rules.Submitted.{Submitted}
use Rattle.oe_queue.specs.declared.rules.Taken.{Taken}
use Rattle.oe_queue.specs.declared.rules.Knowledge.{Knowledge}
use Rattle.oe_queue.specs.declared.rules.Knowledge.TheVariants.{Gone, Sending, Taking}
use Rattle.oe_queue.specs.Order.{messages_of}

-- it is one of these
abbrev pub IsAmong : Submitted → List Submitted → Type 0
IsAmong s [] = ⊥
IsAmong s (q ∷ qs) = (s ≡ q) ⊎ IsAmong s qs

-- the taker: a terminal that got no sender yet has submitted nothing, and each sender that is gone had submitted what
-- it told
pub record IsTaker (queued : List Message) (t : Taken) : Type 0 where
  pub unmade : (terminal : ℕ) → t.senders < terminal → messages_of terminal (t.messages ++ queued) ≡ []
  pub told : (s : Submitted) → IsAmong s t.told
      → (s.terminal ≤ t.senders) × (messages_of s.terminal (t.messages ++ queued) ≡ s.messages)

-- what one of them knows holds of what is queued
abbrev pub IsSound : List Message → Knowledge → Type 0
IsSound queued Gone = Unit {0}
IsSound queued (Sending s) = Unit {0}
IsSound queued (Taking t) = IsTaker queued t

-- what was taken of a sender and then what is queued of it is what it submitted, and it is none that is gone
pub record IsInOrder (queued : List Message) (t : Taken) (s : Submitted) : Type 0 where
  pub made : s.terminal ≤ t.senders
  pub whole : messages_of s.terminal (t.messages ++ queued) ≡ s.messages
  pub here : (gone : Submitted) → IsAmong gone t.told → s.terminal ≢ gone.terminal

-- there is one taker, and no two senders of one terminal
abbrev pub Agree : List Message → Knowledge → Knowledge → Type 0
Agree queued (Taking t) (Sending s) = IsInOrder queued t s
Agree queued (Taking t) (Taking u) = ⊥
Agree queued (Taking t) Gone = Unit {0}
Agree queued (Sending s) (Sending q) = s.terminal ≢ q.terminal
Agree queued (Sending s) (Taking t) = Unit {0}
Agree queued (Sending s) Gone = Unit {0}
Agree queued Gone v = Unit {0}

-- what each of them knows holds, and what any two of them know
pub record Kept (queued : List Message) (views : List Knowledge) : Type 0 where
  pub each : (i : ℕ) (v : Knowledge) → get_elem? views i ≡ some v → IsSound queued v
  pub pairs : (i j : ℕ) (v w : Knowledge) → get_elem? views i ≡ some v → get_elem? views j ≡ some w → i ≢ j
      → Agree queued v w

-- the taker of a new queue
abbrev pub nothing_taken : Taken
nothing_taken = record { messages = []; senders = 0; told = [] }

-- a message is submitted
abbrev pub after_submit : Submitted → Message → Submitted
after_submit s m = record s { messages = s.messages ++ m ∷ [] }

abbrev pub Submits : Knowledge → Message → Knowledge → Type 0
Submits v m w = (s : Submitted) → v ≡ Sending s → w ≡ Sending (after_submit s m)

-- a message is taken
abbrev pub after_take : Taken → Message → Taken
after_take t m = record t { messages = t.messages ++ m ∷ [] }

abbrev pub Takes : Knowledge → Message → Knowledge → Type 0
Takes v m w = (t : Taken) → v ≡ Taking t → w ≡ Taking (after_take t m)

-- the next terminal gets a sender
abbrev pub one_more : Taken → Taken
one_more t = record t { senders = t.senders + 1 }

abbrev pub new_sender : ℕ → Submitted
new_sender terminal = record { terminal = terminal; messages = [] }

abbrev pub with_next : Knowledge → Knowledge
with_next (Taking t) = Taking (one_more t)
with_next Gone = Gone
with_next (Sending s) = Sending s

abbrev pub next_sender : Knowledge → Knowledge
next_sender (Taking t) = Sending (new_sender (t.senders + 1))
next_sender Gone = Gone
next_sender (Sending s) = Gone

-- a sender tells what it submitted
abbrev pub after_report : Taken → Submitted → Taken
after_report t s = record t { told = s ∷ t.told }

abbrev pub knowledge_after : Knowledge → Knowledge → Knowledge
knowledge_after (Taking t) (Sending s) = Taking (after_report t s)
knowledge_after (Taking t) Gone = Taking t
knowledge_after (Taking t) (Taking u) = Taking t
knowledge_after Gone w = Gone
knowledge_after (Sending s) w = Sending s

-- what is learnt of each that has told: what was taken of it, and then what is queued of it, is what it submitted
abbrev pub Tells : Knowledge → List Message → Type 0
Tells v queued =
    (t : Taken) → v ≡ Taking t → (s : Submitted) → IsAmong s t.told
    → messages_of s.terminal (t.messages ++ queued) ≡ s.messages
