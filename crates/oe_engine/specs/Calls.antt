-- What the engine's calls do to what it stands for, and why they are refused.
use Rattle.std.specs.Prelude.{◌≡◌, ◌≢◌, ◌⊎◌, ℕ, suc, ◌-◌, ◌<◌, ◌≤◌, true, false, cond, List, [], ◌∷◌, Option, None}
use Rattle.std.specs.Prelude.{Some, IsSome, is_some, length, take, drop}
use Rattle.oe_theory.specs.Machine.{Ask, Stop, Plain, Take, Guard, Free, Under, Own}
use Rattle.oe_theory.specs.Machine as theory
use Rattle.oe_theory.specs.World.{go_together, set, bump, total}
use Rattle.oe_theory.specs.Next.{held_after, record_on, fill_of, IsNew}
use Rattle.oe_theory.specs.Undo.{unwind, unwind_commits, put_records, lengths_of, used_of}
use Rattle.oe_theory.specs.Store.{Slot, with_change_of, with_record_of, count_slots, counts_before}
use Rattle.oe_rows.specs.declared.locks.Name.{Name}
use Rattle.oe_requests.specs.declared.requests.Request.{Request}
use Rattle.oe_requests.specs.declared.replies.Reply.{Reply}
use Rattle.oe_requests.specs.declared.refusals.Refusal.{Refusal}
use Rattle.oe_requests.specs.declared.refusals.Refusal.TheVariants.{Busy, UndoFull, NotOpen, AlreadyOpen, NoMemory}
use Rattle.oe_requests.specs.declared.refusals.Refusal.TheVariants.{NotQuiet}
use Rattle.oe_model.specs.Rows.{Rows}
use Rattle.oe_model.specs.Changes.{Change, Record, rows_after}
use Rattle.oe_model.specs.Meets.{Accepts, Cause}
use Rattle.oe_model.specs.Locks.{mode_of, is_name}
use Rattle.oe_model.specs.Requests.{number_rejection}
use Rattle.oe_model.specs.System.{system, terminal_limit}
use Rattle.oe_store.specs.Places as tables
use Rattle.oe_change.specs.Applies.{Refuses}
use Rattle.oe_log.specs.Moments.{IsBetween, IsOutside}
use Rattle.oe_engine.specs.View.{EngineState, View, view_of, Handle, IsOpen}
use Rattle.oe_locks.specs.declared.asks.Lock.{Lock}

-- a terminal's transaction may read rows that this governs: it holds their name, or they lie under none
abbrev pub MayRead : View → ℕ → Guard Name → Type 0
MayRead v t (Under n) = IsSome (v.held t n)
MayRead v t (Own u k) = Unit {0}
MayRead v t Free = Unit {0}

-- no other terminal holds the name in a mode that conflicts
abbrev pub IsFree : View → ℕ → Ask Name Refusal → Type 0
IsFree v t (Stop e) = ⊥
IsFree v t Plain = Unit {0}
IsFree v t (Take n m) = (u : ℕ) → u ≢ t → go_together m (v.held u n) ≡ true

-- the least other terminal, with a transaction open, that holds the name in a mode that conflicts
pub record IsInTheWay (v : View) (t : ℕ) (n : Name) (m : theory.Mode) (u : ℕ) : Type 0 where
  pub other : u ≢ t
  pub is_open : v.is_open u ≡ true
  pub conflicts : go_together m (v.held u n) ≡ false
  pub least : (w : ℕ) → w < u → w ≢ t → go_together m (v.held w n) ≡ true

-- a lock is refused so
abbrev pub IsBusy : View → ℕ → Lock → Refusal → Type 0
IsBusy v t l (Busy n u) = (n ≡ l.name) × IsInTheWay v t n (mode_of l.mode) u
IsBusy v t l e = ⊥

-- a transaction begun
abbrev pub after_begin : ℕ → View → View
after_begin t v = record v { is_open = set t true v.is_open }

-- why one can't begin; the first in this order is named: one is open already, its number is past the range, memory is
-- wanted
abbrev pub CantBegin : View → ℕ → Refusal → Type 0
CantBegin v t AlreadyOpen = v.is_open t ≡ true
CantBegin v t NoMemory = (v.is_open t ≡ false) × (number_rejection (suc (v.counts t)) ≡ None)
CantBegin v t e = (v.is_open t ≡ false) × (number_rejection (suc (v.counts t)) ≡ Some e)

-- a name taken in a mode, or risen to it
abbrev pub with_lock : ℕ → Name → theory.Mode → View → View
with_lock t n m v = record v { held = set t (held_after system (Take n m) (v.held t)) v.held }

-- what is asked for taken, if it is a lock
abbrev pub with_ask : ℕ → Ask Name Refusal → View → View
with_ask t (Take n m) v = with_lock t n m v
with_ask t _ v = v

-- a change made and recorded
abbrev pub after_change : ℕ → Change → View → View
after_change t c v = record v {
  rows = rows_after c v.rows;
  undo = put_records system t (record_on system v.layout c v.rows ∷ v.undo.active t) v.undo;
}

-- a name put into a mode, or let go of
abbrev pub put_mode : ℕ → Name → Option theory.Mode → View → View
put_mode t n m v = record v { held = set t (λ q. cond (is_name q n) m (v.held t q)) v.held }

-- the name of a lock that was asked for put into a mode, if one was
abbrev pub ask_put_back : ℕ → Option Lock → Option theory.Mode → View → View
ask_put_back t None m v = v
ask_put_back t (Some l) m v = put_mode t l.name m v

-- a stage done: its lock taken, its change made and recorded
abbrev pub after_stage : ℕ → Ask Name Refusal → Option Change → View → View
after_stage t a c v = record v {
  rows = with_change_of system c v.rows;
  undo = put_records system t (with_record_of system v.layout c v.rows (v.undo.active t)) v.undo;
  held = set t (held_after system a (v.held t)) v.held;
}

-- why a lock is refused: another is in the way, or memory is wanted for a name that is free and is not yet held
abbrev pub LockRefused : View → ℕ → Name → theory.Mode → Refusal → Type 0
LockRefused v t n m (Busy name u) = (name ≡ n) × IsInTheWay v t name m u
LockRefused v t n m NoMemory = IsFree v t (Take n m) × (v.held t n ≡ None)
LockRefused v t n m e = ⊥

-- the record of a change of the rows as they are fits neither the rest of its transaction's last extent nor a free one
abbrev pub IsFullFor : View → ℕ → Change → Type 0
IsFullFor v t c =
    ((fill_of system (lengths_of system (v.undo.active t))).1 < system.size_of (record_on system v.layout c v.rows))
    × (v.extents ≤ used_of system v.undo)

-- it has no room for the record of a stage's change, if the stage makes one
abbrev pub IsFullForAny : View → ℕ → Option Change → Type 0
IsFullForAny v t None = ⊥
IsFullForAny v t (Some c) = IsFullFor v t c

-- why a change is refused: its record has no room, memory is wanted for it, or the tables don't accept it
abbrev pub ChangeRefused : Change → Rows → Refusal → Type 0
ChangeRefused c r UndoFull = Unit {0}
ChangeRefused c r NoMemory = Unit {0}
ChangeRefused c r e = Cause c r e

-- one mode is below another, where none is below Shared, and Shared below Exclusive
abbrev pub IsBelow : Option theory.Mode → Option theory.Mode → Type 0
IsBelow None (Some m) = Unit {0}
IsBelow (Some theory.Shared) (Some theory.Exclusive) = Unit {0}
IsBelow _ _ = ⊥

-- a change has this cause to be refused, where there is one
abbrev pub CauseOf : Option Change → Rows → Refusal → Type 0
CauseOf None r e = ⊥
CauseOf (Some c) r e = Cause c r e

-- why a stage is refused: its transaction isn't open here; another is in the way of its lock; its change's record has
-- no room; memory is wanted for a lock that is new, or for a change; or the tables don't accept the change
abbrev pub StageRefused : EngineState → Handle → Ask Name Refusal → Option Change → Refusal → Type 0
StageRefused s x a c NotOpen = IsOpen s x → ⊥
StageRefused s x a c (Busy n u) = IsOpen s x
    × ((m : theory.Mode) × (a ≡ Take n m) × IsInTheWay (view_of s) x.terminal n m u)
StageRefused s x a c UndoFull = IsOpen s x × IsFree (view_of s) x.terminal a × IsSome c
StageRefused s x a c NoMemory = IsOpen s x × IsFree (view_of s) x.terminal a
    × (IsNew system ((view_of s).held x.terminal) a ⊎ IsSome c)
StageRefused s x a c e = IsOpen s x × IsFree (view_of s) x.terminal a × CauseOf c (view_of s).rows e

-- memory is wanted for the tables: they accept the stage's change, which is an insert at a key without a place, or
-- gives a customer another last name
abbrev pub WantsPlace : Option Change → tables.Places → Type 0
WantsPlace None s = ⊥
WantsPlace (Some c) s = Refuses c s NoMemory

-- the tables accept the row's change, if it makes one
abbrev pub AcceptsAll : Option Change → Rows → Type 0
AcceptsAll None r = Unit {0}
AcceptsAll (Some c) r = Accepts c r

-- how many records a transaction has made since a mark
abbrev pub count_since : View → ℕ → ℕ → ℕ
count_since v t mark = length (v.undo.active t) - mark

-- a transaction taken back to a mark: the records since then put back and dropped
abbrev pub back_at : ℕ → ℕ → View → View
back_at t mark v = record v {
  rows = unwind system (take (count_since v t mark) (v.undo.active t)) v.rows;
  undo = put_records system t (drop (count_since v t mark) (v.undo.active t)) v.undo;
}

-- a transaction gone: it is no longer open and holds nothing
abbrev pub after_end : ℕ → View → View
after_end t v = record v { held = set t (λ _. None) v.held; is_open = set t false v.is_open }

-- a transaction committed: its records sealed at the newest moment
abbrev pub after_commit : ℕ → Request → Reply → View → View
after_commit t q y v = record (after_end t v) {
  undo = record { active = set t [] v.undo.active; history = v.undo.active t ∷ v.undo.history };
  seals = record { tx = record { terminal = t; number = suc (v.counts t); request = q }; reply = y } ∷ v.seals;
  counts = bump t v.counts;
}

-- a transaction rolled back: its records put back and dropped
abbrev pub after_rollback : ℕ → View → View
after_rollback t v = record (after_end t v) {
  rows = unwind system (v.undo.active t) v.rows;
  undo = put_records system t [] v.undo;
}

-- the newest moment: the number of all commits so far
abbrev pub newest : View → ℕ
newest v = total terminal_limit v.counts

-- the oldest moment: as many commits ago as are kept
abbrev pub horizon : View → ℕ
horizon v = newest v - length v.seals

-- a moment whose later commits are kept
abbrev pub IsKeptMoment : View → ℕ → Type 0
IsKeptMoment v m = IsBetween (horizon v) (newest v) m

-- no transaction is open
abbrev pub IsQuiet : View → Type 0
IsQuiet v = (t : ℕ) → v.is_open t ≡ false

-- n transactions are open
abbrev pub AreOpen : View → ℕ → Type 0
AreOpen v n = (slots : ℕ → Option (Slot system)) → ((t : ℕ) → is_some (slots t) ≡ v.is_open t)
    → count_slots system slots terminal_limit ≡ n

-- why a rewind is refused; the first in this order is named: transactions are open, or the moment is outside
abbrev pub CantRewind : View → ℕ → Refusal → Type 0
CantRewind v m (NotQuiet n) = AreOpen v n × (0 < n)
CantRewind v m e = IsQuiet v × IsOutside (horizon v) (newest v) m e

-- the records of the commits up to a moment
abbrev pub records_up_to : ℕ → View → List (List Record)
records_up_to m v = drop (newest v - m) v.undo.history

-- the records and seals of the commits up to a moment gone
abbrev pub after_purge : ℕ → View → View
after_purge m v = record v {
  undo = record { active = v.undo.active; history = take (newest v - m) v.undo.history };
  seals = take (newest v - m) v.seals;
}

-- the commits after a moment undone, and no longer counted
abbrev pub after_rewind : ℕ → View → View
after_rewind m v = record v {
  rows = unwind_commits system (take (newest v - m) v.undo.history) v.rows;
  undo = record { active = v.undo.active; history = drop (newest v - m) v.undo.history };
  seals = drop (newest v - m) v.seals;
  counts = counts_before system v.counts (take (newest v - m) v.seals);
}
