-- One turn of the hall: a step of the machine with what it counts and its entry in the history, or none.
use Rattle.std.specs.Prelude.{◌≡◌, ◌≢◌, ◌⊎◌, ℕ, suc, ◌+◌, ◌-◌, ◌≤◌, min, max, Bool, true, false, Option, None, Some}
use Rattle.std.specs.Prelude.{IsSome}
use Rattle.std.specs.Prelude.{Result, Ok, Err}
use Rattle.atomic_table.specs.Seated.{TableId}
use Rattle.oe_moments.specs.Rule.{turn, sure_word, saw_pin}
use Rattle.oe_moments.specs.Pins.{ThePin, AreOfDesks}
use Rattle.oe_moments.specs.declared.notes.KeeperNotes.{KeeperNotes}
use Rattle.oe_theory.specs.World.{World, newest, horizon}
use Rattle.oe_theory.specs.Next.{count_open}
use Rattle.oe_model.specs.System.{system, terminal_limit}
use Rattle.oe_machine.specs.Steps.{Carries, Advances, begin_answer}
use Rattle.oe_machine.specs.declared.advances.Advanced.{Advanced}
use Rattle.oe_machine.specs.declared.advances.Advanced.TheVariants as advanced
use Rattle.oe_requests.specs.declared.requests.Request.{Request}
use Rattle.oe_requests.specs.declared.requests.Query.{Query}
use Rattle.oe_requests.specs.declared.replies.QueryReply.{QueryReply}
use Rattle.oe_requests.specs.declared.replies.Reply.{Reply}
use Rattle.oe_requests.specs.declared.refusals.Refusal.{Refusal}
use Rattle.oe_requests.specs.declared.refusals.Refusal.TheVariants as refusal
use Rattle.oe_requests.specs.declared.steps.Step.{Step}
use Rattle.oe_requests.specs.declared.steps.Step.TheVariants as step
use Rattle.oe_requests.specs.declared.answers.Answer.{Answer}
use Rattle.oe_requests.specs.declared.answers.Answer.TheVariants as answer
use Rattle.oe_history.specs.Views.{entry}
use Rattle.oe_history.specs.Calls.{TheHistory, TheCaller, Extends, with_entry}
use Rattle.oe_hall.specs.Counts.{Counts, Tally, with_begin, with_commit, with_rollback, tally_with_begin}
use Rattle.oe_hall.specs.Counts.{tally_with_commit, tally_with_rollback}

-- what a clause sees of a core with the history that has led to it
pub record TheRecord (C : Type 0) : Type 0 where
  pub core : C
  pub history : TheHistory

-- what a clause sees of the hall: the core and its history, what was counted, what the keeper knows, and the words of
-- the pins
pub record TheHall (C : Type 0) : Type 0 where
  pub core : C
  pub history : TheHistory
  pub counts : Counts
  pub keeper : KeeperNotes
  pub words : TableId

abbrev pub with_history : {C : Type 0} → TheHistory → TheHall C → TheHall C
with_history x h = record h { history = x }

-- the keeper has looked at the desk of a pin, and found that word
abbrev pub after_search : {C : Type 0} → ThePin → ℕ → TheHall C → TheHall C
after_search p n h = record h { keeper = saw_pin (p.terminal - 1) n h.keeper }

-- how many transactions are open
abbrev pub open_count : World system → ℕ
open_count w = count_open system w.active terminal_limit

-- WHAT A STEP MOVES: NEWEST MOMENT, OPEN TRANSACTIONS, HORIZON; THE LAYOUT OF UNDO RECORDS STAYS

abbrev pub HasSame : World system → World system → Type 0
HasSame w v = (newest system v ≡ newest system w) × (open_count v ≡ open_count w)
    × (horizon system v ≡ horizon system w) × (v.layout ≡ w.layout)

abbrev pub HasBegun : World system → World system → Type 0
HasBegun w v = (newest system v ≡ newest system w) × (open_count v ≡ suc (open_count w))
    × (horizon system v ≡ horizon system w) × (v.layout ≡ w.layout)

abbrev pub HasCommitted : World system → World system → Type 0
HasCommitted w v = (newest system v ≡ suc (newest system w)) × (suc (open_count v) ≡ open_count w)
    × (horizon system v ≡ horizon system w) × (v.layout ≡ w.layout)

abbrev pub HasEnded : World system → World system → Type 0
HasEnded w v = (newest system v ≡ newest system w) × (suc (open_count v) ≡ open_count w)
    × (horizon system v ≡ horizon system w) × (v.layout ≡ w.layout)

abbrev pub HasPurged : ℕ → World system → World system → Type 0
HasPurged m w v = (newest system v ≡ newest system w) × (open_count v ≡ open_count w) × (horizon system v ≡ m)
    × (v.layout ≡ w.layout)

abbrev pub HasMoved : Advanced → World system → World system → Type 0
HasMoved advanced.More w v = HasSame w v
HasMoved (advanced.Kept e) w v = HasSame w v
HasMoved (advanced.Committed m) w v = HasCommitted w v
HasMoved (advanced.RolledBack e) w v = HasEnded w v

abbrev pub BeginMoves : Result (Unit {0}) Refusal → World system → World system → Type 0
BeginMoves (Ok u) w v = HasBegun w v
BeginMoves (Err e) w v = HasSame w v

abbrev pub EndMoves : Result (Unit {0}) Refusal → World system → World system → Type 0
EndMoves (Ok u) w v = HasEnded w v
EndMoves (Err e) w v = HasSame w v

-- the committed count is the newest moment, and what was begun and not ended is open
abbrev pub AreCounts : Counts → World system → Type 0
AreCounts c w = (c.committed ≡ newest system w) × (c.begun ≡ c.committed + c.rolled_back + open_count w)

-- so it is in a hall, whose keeper has the world's horizon
abbrev pub IsHall : {C : Type 0} → (C → World system) → TheHall C → Type 0
IsHall world h = AreCounts h.counts (world h.core) × (h.keeper.horizon ≡ horizon system (world h.core))

-- what one hand is told of a begin
abbrev pub begin_told : Result (Unit {0}) Refusal → Tally → Tally
begin_told (Ok u) c = tally_with_begin c
begin_told (Err e) c = c

-- what is counted of an advance, and told
abbrev pub counts_with : Advanced → Counts → Counts
counts_with advanced.More c = c
counts_with (advanced.Kept e) c = c
counts_with (advanced.Committed m) c = with_commit c
counts_with (advanced.RolledBack e) c = with_rollback c

abbrev pub tally_after : Advanced → Tally → Tally
tally_after advanced.More c = c
tally_after (advanced.Kept e) c = c
tally_after (advanced.Committed m) c = tally_with_commit c
tally_after (advanced.RolledBack e) c = tally_with_rollback c

-- the reply that was kept stays, unless a commit has left its own, and then there is one
abbrev pub LeavesReply : Advanced → Option Reply → Option Reply → Type 0
LeavesReply advanced.More old new = new ≡ old
LeavesReply (advanced.Kept e) old new = new ≡ old
LeavesReply (advanced.Committed m) old new = IsSome new
LeavesReply (advanced.RolledBack e) old new = new ≡ old

-- the call is the newest entry
abbrev pub IsWritten : {C : Type 0} → ℕ → Step → Answer → TheHall C → TheHall C → Type 0
IsWritten by i a h h' = h'.history ≡ with_entry (entry by i a) h.history

-- the pins are the same, and what the keeper knows of them
abbrev pub HasSamePins : {C : Type 0} → TheHall C → TheHall C → Type 0
HasSamePins h h' = (h'.words ≡ h.words) × (h'.keeper ≡ h.keeper)

-- a begin is one step
abbrev pub BeginTurn : {C : Type 0} → (C → World system) → TheHall C → ℕ → Request → Result (Unit {0}) Refusal
    → TheHall C → Type 0
BeginTurn world h t q (Ok u) h' = Carries (world h.core) (step.Begin t q) answer.Begun (world h'.core)
    × IsWritten t (step.Begin t q) answer.Begun h h' × (h'.counts ≡ with_begin h.counts) × HasSamePins h h'
BeginTurn world h t q (Err e) h' = Carries (world h.core) (step.Begin t q) (answer.Refused e) (world h'.core)
    × IsWritten t (step.Begin t q) (answer.Refused e) h h' × (h'.counts ≡ h.counts) × HasSamePins h h'

-- the answer of an Advance that leaves this reply at its desk: a commit's is its own
abbrev pub advance_answer : Advanced → Option Reply → Answer
advance_answer advanced.More y = answer.More
advance_answer (advanced.Kept e) y = answer.Refused e
advance_answer (advanced.Committed m) (Some y) = answer.Committed m y
advance_answer (advanced.Committed m) None = answer.Begun
advance_answer (advanced.RolledBack e) y = answer.Refused e

-- an advance is one step, and the reply that is kept is a commit's own
abbrev pub AdvanceTurn : {C : Type 0} → (C → World system) → TheHall C → ℕ → Advanced → Option Reply → TheHall C
    → Type 0
AdvanceTurn world h t r reply h' = Advances (world h.core) t r (world h'.core) reply
    × IsWritten t (step.Advance t) (advance_answer r reply) h h'
    × (h'.counts ≡ counts_with r h.counts) × HasSamePins h h'

abbrev pub end_answer : Result (Unit {0}) Refusal → Answer
end_answer (Ok u) = answer.RolledBack
end_answer (Err e) = answer.Refused e

abbrev pub end_counts : Result (Unit {0}) Refusal → Counts → Counts
end_counts (Ok u) c = with_rollback c
end_counts (Err e) c = c

abbrev pub end_told : Result (Unit {0}) Refusal → Tally → Tally
end_told (Ok u) c = tally_with_rollback c
end_told (Err e) c = c

-- an end is one step
abbrev pub EndTurn : {C : Type 0} → (C → World system) → TheHall C → ℕ → Result (Unit {0}) Refusal → TheHall C
    → Type 0
EndTurn world h t r h' = Carries (world h.core) (step.Rollback t) (end_answer r) (world h'.core)
    × IsWritten t (step.Rollback t) (end_answer r) h h' × (h'.counts ≡ end_counts r h.counts) × HasSamePins h h'

abbrev pub read_answer : Result QueryReply Refusal → Answer
read_answer (Ok f) = answer.Replied f
read_answer (Err e) = answer.Refused e

-- a read begins with a look at the pin's word: where that is the pin's, it is one step, which changes only the history;
-- where it is another, it is none
abbrev pub ReadTurn : {C : Type 0} → (C → World system) → TheHall C → ℕ → ThePin → Query → Result QueryReply Refusal
    → TheHall C → Type 0
ReadTurn world h t p q r h' =
    Carries (world h.core) (step.Read p.moment q) (read_answer r) (world h'.core)
    × (h' ≡ with_history (with_entry (entry t (step.Read p.moment q) (read_answer r)) h.history)
    (after_search p (sure_word p.moment) h))
    ⊎ (n : ℕ) × (r ≡ Err (refusal.NotPinned n)) × (n ≢ sure_word p.moment) × (h' ≡ after_search p n h)

-- the keeper claimed a moment and passed each desk's pin: its horizon is the later of the old one and the least of that
-- moment and those pins
abbrev pub HasSwept : TableId → ℕ → KeeperNotes → KeeperNotes → Type 0
HasSwept words m k k' = (k'.claim ≡ m) × (k'.turned ≡ turn k.turned) × AreOfDesks words k'.passed
    × (k'.horizon ≡ max k.horizon k'.least) × (k'.horizon ≤ max k.horizon m) × (k'.found ≡ k.found)

-- a purge is one step of the purger, whose number is 0, at the horizon that the keeper reaches: it claims what is
-- asked, and no more than the newest moment
abbrev pub PurgeTurn : {C : Type 0} → (C → World system) → TheHall C → ℕ → ℕ → TheHall C → Type 0
PurgeTurn world h asked m h' = HasSwept h.words (min asked (newest system (world h.core))) h.keeper h'.keeper
    × (m ≡ h'.keeper.horizon) × Carries (world h.core) (step.Purge m) (answer.Purged m) (world h'.core)
    × IsWritten 0 (step.Purge m) (answer.Purged m) h h' × (h'.counts ≡ h.counts) × (h'.words ≡ h.words)

-- the read is not refused for its moment's age
abbrev pub IsYoung : Result QueryReply Refusal → Type 0
IsYoung (Err (refusal.TooOld h)) = ⊥
IsYoung r = Unit {0}

-- WHAT A CALL ADDS TO WHAT ITS CALLER KNOWS: ITS ENTRY, OR NOTHING WHERE IT IS NO STEP

abbrev pub BeginCall : TheCaller → ℕ → Request → Result (Unit {0}) Refusal → TheCaller → Type 0
BeginCall c t q r c' = Extends c (entry t (step.Begin t q) (begin_answer r)) c'

abbrev pub AdvanceCall : TheCaller → ℕ → Advanced → Option Reply → TheCaller → Type 0
AdvanceCall c t r reply c' = Extends c (entry t (step.Advance t) (advance_answer r reply)) c'

abbrev pub EndCall : TheCaller → ℕ → Result (Unit {0}) Refusal → TheCaller → Type 0
EndCall c t r c' = Extends c (entry t (step.Rollback t) (end_answer r)) c'

-- the keeper of the hall of these words looked at the desk of a pin, and found another word, with which it is refused
abbrev pub IsNotFound : {C : Type 0} → (C → World system) → TableId → ThePin → Result QueryReply Refusal → Type 0
IsNotFound {C} world words p r =
    (h : TheHall C) × IsHall world h × (h.words ≡ words) × (h.keeper.found.desk ≡ p.terminal - 1)
    × (h.keeper.found.word ≢ sure_word p.moment) × (r ≡ Err (refusal.NotPinned h.keeper.found.word))

abbrev pub ReadCall : {C : Type 0} → (C → World system) → TableId → TheCaller → ℕ → ThePin → Query
    → Result QueryReply Refusal → TheCaller → Type 0
ReadCall world words c t p q r c' =
    Extends c (entry t (step.Read p.moment q) (read_answer r)) c' ⊎ IsNotFound world words p r × (c' ≡ c)

-- the purger's
abbrev pub PurgeCall : TheCaller → ℕ → TheCaller → Type 0
PurgeCall c m c' = Extends c (entry 0 (step.Purge m) (answer.Purged m)) c'

-- WHETHER THE CALLER'S TRANSACTION IS OPEN BEFORE AND AFTER AN ANSWER

abbrev pub BeginLeaves : Result (Unit {0}) Refusal → Bool → Bool → Type 0
BeginLeaves (Ok u) was is = (was ≡ false) × (is ≡ true)
BeginLeaves (Err e) was is = is ≡ was

abbrev pub AdvanceLeaves : Advanced → Bool → Bool → Type 0
AdvanceLeaves advanced.More was is = is ≡ was
AdvanceLeaves (advanced.Kept e) was is = is ≡ was
AdvanceLeaves (advanced.Committed m) was is = (was ≡ true) × (is ≡ false)
AdvanceLeaves (advanced.RolledBack e) was is = (was ≡ true) × (is ≡ false)

-- an end is refused only where none is open
abbrev pub EndLeaves : Result (Unit {0}) Refusal → Bool → Bool → Type 0
EndLeaves (Ok u) was is = (was ≡ true) × (is ≡ false)
EndLeaves (Err e) was is = (was ≡ false) × (is ≡ false)
