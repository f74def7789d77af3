-- Messages in their order.
use Rattle.std.specs.Prelude.{◌≡◌, ℕ, ◌==◌, Bool, true, false, if◌then◌else◌, List, [], ◌∷◌, ◌++◌}
use Rattle.oe_queue.specs.declared.messages.Message.{Message}
use Rattle.oe_queue.specs.declared.messages.Message.TheVariants.{Delivery, End}

-- the terminal that a message is of
abbrev pub sender_of : Message → ℕ
sender_of (Delivery t d) = t
sender_of (End t) = t

-- the messages of one terminal, in their order
abbrev pub messages_of : ℕ → List Message → List Message
messages_of t [] = []
messages_of t (m ∷ ms) = if sender_of m == t then m ∷ messages_of t ms else messages_of t ms

-- the second list begins with the first
abbrev pub IsBeginning : List Message → List Message → Type 0
IsBeginning front whole = (rest : List Message) × (front ++ rest ≡ whole)

abbrev pub is_end : Message → Bool
is_end (Delivery t d) = false
is_end (End t) = true

abbrev pub has_end : List Message → Bool
has_end [] = false
has_end (m ∷ ms) = if is_end m then true else has_end ms

-- deliveries, and at last the terminal's end mark
abbrev pub IsEnded : ℕ → List Message → Type 0
IsEnded t sent = (deliveries : List Message) × (has_end deliveries ≡ false) × (sent ≡ deliveries ++ End t ∷ [])
