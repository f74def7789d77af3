-- What a clause sees of seats and pins.
use Rattle.std.specs.Prelude.{◌≡◌, ℕ, ◌+◌, ◌<◌, Bool, true, false}
use Rattle.atomic_table.specs.Seated.{TableId}
use Rattle.oe_moments.specs.declared.notes.PinState.{PinState}
use Rattle.oe_moments.specs.declared.notes.PinState.TheVariants.{Free, Announced, Looked, Sure}
use Rattle.oe_moments.specs.declared.notes.DeskNotes.{DeskNotes}
use Rattle.oe_moments.specs.declared.notes.KeeperNotes.{KeeperNotes}
use Rattle.oe_moments.specs.declared.notes.DealerNotes.{DealerNotes}
use Rattle.oe_moments.specs.Rule.{first_pin}

-- the words are of that number of desks, or have a word for the desk of that number
abbrev pub AreOfDesks : TableId → ℕ → Type 0
AreOfDesks words desks = words.words ≡ desks + first_pin

abbrev pub HaveDesk : TableId → ℕ → Type 0
HaveDesk words number = number + first_pin < words.words

-- a desk's seat: its words, shop and terminal, and what the desk knows
pub record TheSeat : Type 0 where
  pub words : TableId
  pub shop : ℕ
  pub terminal : ℕ
  pub notes : DeskNotes

pub record TheKeeper : Type 0 where
  pub words : TableId
  pub notes : KeeperNotes

-- the dealer of a shop's seats
pub record TheDealer : Type 0 where
  pub words : TableId
  pub shop : ℕ
  pub notes : DealerNotes

pub record ThePin : Type 0 where
  pub shop : ℕ
  pub terminal : ℕ
  pub moment : ℕ

abbrev pub with_notes : DeskNotes → TheSeat → TheSeat
with_notes notes seat = record seat { notes = notes }

abbrev pub with_watch : KeeperNotes → TheKeeper → TheKeeper
with_watch notes keeper = record keeper { notes = notes }

abbrev pub with_deal : DealerNotes → TheDealer → TheDealer
with_deal notes dealer = record dealer { notes = notes }

abbrev pub is_pinned : PinState → Bool
is_pinned Free = false
is_pinned (Announced n) = true
is_pinned (Looked n) = true
is_pinned (Sure n) = true

abbrev pub is_sure : PinState → Bool
is_sure Free = false
is_sure (Announced n) = false
is_sure (Looked n) = false
is_sure (Sure n) = true

-- the pin is the desk's, of its shop, and sure
abbrev pub Holds : TheSeat → ThePin → Type 0
Holds seat pin = (pin.shop ≡ seat.shop) × (pin.terminal ≡ seat.terminal) × (seat.notes.pin ≡ Sure pin.moment)
