-- What a core stores, and the world that it stands for.
use Rattle.std.specs.Prelude.{◌≡◌, ℕ, suc, Bool, true, false, List, Option, None, Some, length, get_or}
use Rattle.oe_theory.specs.World.{World}
use Rattle.oe_theory.specs.Next.{Next, Step}
use Rattle.oe_theory.specs.Next as next
use Rattle.oe_theory.specs.Store.{Slot, Store}
use Rattle.oe_theory.specs.Store as theory
use Rattle.oe_theory.specs.StoreTheorems.{IsStanding}
use Rattle.oe_values.specs.declared.numbers.TheConstants.{TERMINALS}
use Rattle.oe_requests.specs.declared.refusals.Refusal.{Refusal}
use Rattle.oe_requests.specs.declared.refusals.Refusal.TheVariants as refusal
use Rattle.oe_requests.specs.declared.replies.Reply.{Reply}
use Rattle.oe_model.specs.System.{system}
use Rattle.oe_engine.specs.View.{View, view_of, Handle, IsOpen}
use Rattle.oe_engine.specs.View as engine
use Rattle.oe_engine.specs.Calls.{after_rollback}
use Rattle.oe_engine.specs.Programs.{reply_at}
use Rattle.oe_core.specs.Works.{WorkState}

-- the engine, the open transactions in the slots of their terminals, and what lies there for them to carry out
pub record CoreState : Type 0 where
  pub engine : engine.EngineState
  pub txs : List (Option Handle)
  pub works : List (Option WorkState)

-- what stands in a terminal's slot
abbrev pub in_slot : {X : Type 0} → List (Option X) → ℕ → Option X
in_slot xs t = get_or xs t None

-- what an open transaction carries out; without one, what lies there is nobody's
abbrev pub work_of : Option Handle → Option WorkState → Option WorkState
work_of None w = None
work_of (Some x) w = w

abbrev pub work_at : CoreState → ℕ → Option WorkState
work_at s t = work_of (in_slot s.txs t) (in_slot s.works t)

-- what was carried out in a slot has its reply where it has come to its end, and is no longer open
abbrev pub reply_left : Option Handle → Option WorkState → Option Reply
reply_left (Some x) w = None
reply_left None None = None
reply_left None (Some w) = reply_at w.position

-- the reply of a terminal's last transaction, if it committed
abbrev pub last_reply : CoreState → ℕ → Option Reply
last_reply s t = reply_left (in_slot s.txs t) (in_slot s.works t)

-- an open transaction of terminal t, as the theory stores it
abbrev pub slot_of : View → ℕ → WorkState → Slot system
slot_of v t w =
    record {
      number = suc (v.counts t);
      request = w.request;
      position = w.position;
      mark_position = w.mark;
      mark_count = w.mark_records;
      held = v.held t;
    }

-- if there is one
abbrev pub open_at : View → ℕ → Option WorkState → Option (Slot system)
open_at v t None = None
open_at v t (Some w) = Some (slot_of v t w)

-- all that is stored, in the words of the theory of transactions
abbrev pub store_with : View → (ℕ → Option WorkState) → Store system
store_with v f = record {
  tables = v.rows;
  undo = v.undo;
  slots = λ t. open_at v t (f t);
  seals = v.seals;
  counts = v.counts;
  extents = v.extents;
  layout = v.layout;
}

abbrev pub store_of : CoreState → Store system
store_of s = store_with (view_of s.engine) (work_at s)

-- the world of open transactions and commits
unfoldable pub world_of : CoreState → World system
world_of s = theory.world_of system (store_of s)

-- the store stands for a world that steps led to
unfoldable pub IsSound : CoreState → Type 0
IsSound s = IsStanding system (store_of s)

-- the transaction is open in the engine, and the terminal's
pub record IsTx (e : engine.EngineState) (t : ℕ) (x : Handle) : Type 0 where
  pub is_open : IsOpen e x
  pub terminal : x.terminal ≡ t

-- a slot has a transaction, and work for it, exactly where its terminal has one open
abbrev pub Works : engine.EngineState → ℕ → Option Handle → Option WorkState → Type 0
Works e t None w = (view_of e).is_open t ≡ false
Works e t (Some x) None = ⊥
Works e t (Some x) (Some w) = IsTx e t x

pub record IsOrderly (s : CoreState) : Type 0 where
  pub tx_slots : length s.txs ≡ suc TERMINALS
  pub work_slots : length s.works ≡ suc TERMINALS
  pub works : (t : ℕ) → Works s.engine t (in_slot s.txs t) (in_slot s.works t)
  pub sound : IsSound s

-- a step of what is stored
pub record Moves (s : CoreState) (i : Step system) (a : next.Answer system) (s' : CoreState) : Type 0 where
  pub next : Next system (world_of s) i a (world_of s')
  pub orderly : IsOrderly s'

-- refusals of a row that leave its transaction open where it stands
abbrev pub keeps_open : Refusal → Bool
keeps_open (refusal.Busy n u) = true
keeps_open refusal.UndoFull = true
keeps_open refusal.NoMemory = true
keeps_open _ = false

-- the transaction of a slot is open
abbrev pub IsEndable : engine.EngineState → Option Handle → Type 0
IsEndable e None = Unit {0}
IsEndable e (Some x) = IsOpen e x

-- the transaction of a slot was rolled back, where there is one
abbrev pub IsEnded : engine.EngineState → Option Handle → engine.EngineState → Type 0
IsEnded e None e' = e' ≡ e
IsEnded e (Some x) e' = (view_of e' ≡ after_rollback x.terminal (view_of e)) × (e'.name ≡ e.name)
