-- What a clause sees of the ends of a queue.
use Rattle.std.specs.Prelude.{◌≡◌, ℕ, List, [], ◌∷◌}
use Rattle.atomic_table.specs.Seated.{TableId}
use Rattle.atomic_table.specs.declared.badge.Badge.{Badge}
use Rattle.crossbeam_channel.specs.declared.flavors.array.Key.{Key}
use Rattle.oe_queue.specs.Order.{messages_of}
use Rattle.oe_queue.specs.Rule.{nothing_taken, IsAmong}
use Rattle.oe_queue.specs.declared.messages.Message.{Message}
use Rattle.oe_queue.specs.declared.rules.Submitted.{Submitted}
use Rattle.oe_queue.specs.declared.rules.Taken.{Taken}
use Rattle.oe_queue.specs.declared.rules.Knowledge.{Knowledge}
use Rattle.oe_queue.specs.declared.rules.Knowledge.TheVariants.{Gone, Sending, Taking}

-- which queue an end is of
pub record TheQueue : Type 0 where
  pub table : TableId
  pub key : Badge (Key Message)

-- a sender: its queue, its terminal, and what it submitted
pub record TheSender : Type 0 where
  pub queue : TheQueue
  pub terminal : ℕ
  pub sent : List Message

-- the taker: its queue, what it took, and what those senders submitted that were compared
pub record TheTaker : Type 0 where
  pub queue : TheQueue
  pub taken : List Message
  pub heard : List Submitted

-- what the holder of a pass knows, where it is a sender or the taker
abbrev pub sent_in : Knowledge → List Message
sent_in (Sending s) = s.messages
sent_in Gone = []
sent_in (Taking t) = []

abbrev pub hand_of : Knowledge → Taken
hand_of (Taking t) = t
hand_of Gone = nothing_taken
hand_of (Sending s) = nothing_taken

-- a sender that has submitted nothing
abbrev pub new_sender : TheQueue → ℕ → TheSender
new_sender q t = record { queue = q; terminal = t; sent = [] }

-- the taker has heard what a sender submitted
abbrev pub with_heard : TheSender → TheTaker → TheTaker
with_heard s t = record t { heard = record { terminal = s.terminal; messages = s.sent } ∷ t.heard }

-- of each sender that it has heard, the taker has taken the whole
abbrev pub HasTakenAll : TheTaker → Type 0
HasTakenAll t = (s : Submitted) → IsAmong s t.heard → messages_of s.terminal t.taken ≡ s.messages
