-- What desks are told: by its own contract each call is one entry of the history, behind all that its desk had seen.
use Rattle.std.specs.Prelude.{◌≡◌, ◌<◌, ◌≤◌, ◌⊎◌, ℕ, suc, ◌+◌, ◌-◌, ◌*◌, ◌^◌, Bool, cond, Option, Some, Result, Ok}
use Rattle.std.specs.Prelude.{Err, List, []}
use Rattle.std.specs.Prelude.{◌∷◌, sum_by}
use Rattle.std.specs.Prelude.{slice_get}
use Rattle.atomic_table.specs.Seated.{TableId}
use Rattle.oe_moments.specs.Rule.{pin_word}
use Rattle.oe_moments.specs.Pins.{TheSeat, ThePin, Holds}
use Rattle.oe_theory.specs.World.{World}
use Rattle.oe_model.specs.System.{system}
use Rattle.oe_machine.specs.declared.advances.Advanced.{Advanced}
use Rattle.oe_machine.specs.declared.advances.Advanced.TheVariants as advanced
use Rattle.oe_requests.specs.declared.requests.Request.{Request}
use Rattle.oe_requests.specs.declared.requests.Query.{Query}
use Rattle.oe_requests.specs.declared.replies.QueryReply.{QueryReply}
use Rattle.oe_requests.specs.declared.replies.Reply.{Reply}
use Rattle.oe_requests.specs.declared.refusals.Refusal.{Refusal}
use Rattle.oe_requests.specs.declared.refusals.Refusal.TheVariants as refusal
use Rattle.oe_requests.specs.declared.refusals.Column.TheVariants.{HistoryNumber}
use Rattle.oe_history.specs.declared.views.Entry.{Entry}
use Rattle.oe_history.specs.Calls.{TheCaller, Knows}
use Rattle.oe_hall.specs.Naming.{TheMarks}
use Rattle.oe_hall.specs.Counts.{Tally}
use Rattle.oe_hall.specs.Seats.{ThePlace, TheRoom}
use Rattle.oe_hall.specs.Turns.{TheHall, IsHall, PurgeTurn, BeginCall, AdvanceCall, EndCall, ReadCall, PurgeCall}
use Rattle.oe_hall.specs.declared.counts.Counted.{Counted}
use Rattle.oe_hall.specs.declared.shop.Open.{Open}
use Rattle.oe_hall.specs.declared.shop.Turn.{Turn}
use Rattle.oe_hall.specs.declared.shop.Turn.TheVariants as turn

-- what a clause sees of a shop: its room, how many desks it gave, and the places of the other terminals
pub record TheShop : Type 0 where
  pub room : TheRoom
  pub given : ℕ
  pub seats : List (Option ThePlace)

-- and of a desk: its seat, its calls, what it was told, and the reply of its newest commit
pub record TheDesk : Type 0 where
  pub seat : TheSeat
  pub calls : TheCaller
  pub told : Tally
  pub reply : Option Reply

-- what a shop is known by that is not opened yet
pub record TheSeats : Type 0 where
  pub names : TheMarks
  pub shop : ℕ

-- the place of a terminal that has no desk yet
abbrev pub seat_for : TheShop → ℕ → Option (Option ThePlace)
seat_for s t = slice_get s.seats (t - 1)

abbrev pub with_told : Tally → TheDesk → TheDesk
with_told c d = record d { told = c }

abbrev pub with_reply : Option Reply → TheDesk → TheDesk
with_reply y d = record d { reply = y }

abbrev pub with_calls : TheCaller → TheDesk → TheDesk
with_calls c d = record d { calls = c }

abbrev pub with_seat : TheSeat → TheDesk → TheDesk
with_seat s d = record d { seat = s }

-- the desk with this seat began it
abbrev pub IsOwn : TheSeat → Open → Type 0
IsOwn s o = (o.shop ≡ s.shop) × (o.terminal ≡ s.terminal)

-- a desk begins no more transactions than these, so that 64 desks' counts have a sum below 2 ^ 64
abbrev pub most_begun : ℕ
most_begun = 288_230_376_151_711_743

-- what was begun has ended, but for one transaction where one is open
abbrev pub IsBalanced : Tally → Bool → Type 0
IsBalanced c is_open = (c.begun ≡ c.committed + c.rolled_back + cond is_open 1 0) × (c.begun ≤ most_begun)

-- WHAT THE HALL ANSWERED

abbrev pub begins : Result Open Refusal → Result (Unit {0}) Refusal
begins (Ok o) = Ok tt
begins (Err r) = Err r

abbrev pub advances : Turn → Advanced
advances (turn.More o) = advanced.More
advances (turn.Kept o e) = advanced.Kept e
advances (turn.Committed m) = advanced.Committed m
advances (turn.RolledBack e) = advanced.RolledBack e

abbrev pub ends : Result (Unit {0}) (Refusal × Open) → Result (Unit {0}) Refusal
ends (Ok u) = Ok tt
ends (Err e) = Err e.0

-- THE ENTRY THAT A CALL IS

-- Each is the newest entry that the desk has seen, behind all that it had seen, and the newest of its own calls; one
-- that is no step adds nothing.

abbrev pub ABegin : TheDesk → Request → Result Open Refusal → TheDesk → Type 0
ABegin d q r d' =
    BeginCall d.calls d.seat.terminal q (begins r) d'.calls
    ⊎ (r ≡ Err (refusal.Overflow HistoryNumber)) × (d.told.begun ≡ most_begun) × (d'.calls ≡ d.calls)

-- a transaction that stays open is the one that was handed in
abbrev pub Keeps : Open → Turn → Type 0
Keeps o (turn.More p) = p ≡ o
Keeps o (turn.Kept p e) = p ≡ o
Keeps o (turn.Committed m) = Unit {0}
Keeps o (turn.RolledBack e) = Unit {0}

abbrev pub KeepsOnErr : Open → Result (Unit {0}) (Refusal × Open) → Type 0
KeepsOnErr o (Ok u) = Unit {0}
KeepsOnErr o (Err e) = e.1 ≡ o

-- of the desk's own transaction; any other comes back
abbrev pub AnAdvance : TheDesk → Open → Turn → TheDesk → Type 0
AnAdvance d o r d' =
    IsOwn d.seat o × AdvanceCall d.calls d.seat.terminal (advances r) d'.reply d'.calls
    ⊎ (r ≡ turn.Kept o refusal.NotOpen) × (IsOwn d.seat o → ⊥) × (d'.calls ≡ d.calls)

abbrev pub AnEnd : TheDesk → Open → Result (Unit {0}) (Refusal × Open) → TheDesk → Type 0
AnEnd d o r d' =
    IsOwn d.seat o × EndCall d.calls d.seat.terminal (ends r) d'.calls
    ⊎ (r ≡ Err (refusal.NotOpen, o)) × (IsOwn d.seat o → ⊥) × (d'.calls ≡ d.calls)

-- at the moment of the desk's own pin; the desk refuses any other with the word of its own pin
abbrev pub ARead : {C : Type 0} → (C → World system) → TheDesk → ThePin → Query → Result QueryReply Refusal → TheDesk
    → Type 0
ARead world d p q r d' =
    Holds d.seat p × ReadCall world d.seat.words d.calls d.seat.terminal p q r d'.calls
    ⊎ (r ≡ Err (refusal.NotPinned (pin_word d.seat.notes.pin))) × (Holds d.seat p → ⊥) × (d'.calls ≡ d.calls)

-- the purger's, in a turn of the hall of these words, whose history it has seen
abbrev pub APurge : {C : Type 0} → (C → World system) → TableId → TheCaller → ℕ → ℕ → TheCaller → Type 0
APurge {C} world words c asked m c' =
    PurgeCall c m c'
    × (h : TheHall C) × (h' : TheHall C) × IsHall world h × IsHall world h' × (h.words ≡ words)
    × PurgeTurn world h asked m h'
    × (h'.history.log ≡ c'.seen)

-- WHAT A SHOP LEAVES

-- each desk's calls are the history's entries of its terminal, and what it has seen is a beginning of the history
abbrev pub AreKnown : List Entry → List TheDesk → Type 0
AreKnown log [] = Unit {0}
AreKnown log (d ∷ ds) = Knows log d.calls × AreKnown log ds

-- no caller has this number: no terminal has it, or its terminal has no desk
abbrev pub IsNobodys : List (Option ThePlace) → ℕ → Type 0
IsNobodys seats by = (64 < by) ⊎ ((k : ℕ) × (p : ThePlace) × (by ≡ suc k) × (slice_get seats k ≡ Some (Some p)))

-- WHAT DESKS WERE TOLD IN ALL

abbrev pub begun_by : TheDesk → ℕ
begun_by d = d.told.begun

abbrev pub committed_by : TheDesk → ℕ
committed_by d = d.told.committed

abbrev pub rolled_back_by : TheDesk → ℕ
rolled_back_by d = d.told.rolled_back

-- the counts are the sums of what the desks were told
abbrev pub AreSums : List TheDesk → Counted → Type 0
AreSums desks c =
    (c.begun ≡ sum_by begun_by desks) × (c.committed ≡ sum_by committed_by desks)
    × (c.rolled_back ≡ sum_by rolled_back_by desks)

-- that many desks' counts can be added to these
abbrev pub HasRoomToCount : Counted → ℕ → Type 0
HasRoomToCount c n =
    (c.begun + n * most_begun < 2 ^ 64) × (c.committed + n * most_begun < 2 ^ 64)
    × (c.rolled_back + n * most_begun < 2 ^ 64)

-- that many were told to begin and not to end
abbrev pub AreOpen : List TheDesk → ℕ → Type 0
AreOpen desks n = n + sum_by committed_by desks + sum_by rolled_back_by desks ≡ sum_by begun_by desks
