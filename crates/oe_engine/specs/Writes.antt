-- What a write asks of its transaction, and what became of it.
use Rattle.std.specs.Prelude.{◌≡◌, ℕ, Option, None, Some, IsSome, Result, OnOk, OnErr, IfErr}
use Rattle.std.specs.Option.{IsSomeAnd, ForSome}
use Rattle.oe_theory.specs.Machine.{Ask, Take}
use Rattle.oe_theory.specs.Machine as theory
use Rattle.oe_theory.specs.Next.{IsNew}
use Rattle.oe_rows.specs.declared.keys.Key.{Key}
use Rattle.oe_rows.specs.declared.locks.Name.{Name}
use Rattle.oe_rows.specs.declared.locks.Name.TheVariants as name
use Rattle.oe_requests.specs.declared.refusals.Refusal.{Refusal}
use Rattle.oe_requests.specs.declared.refusals.Refusal.TheVariants.{Busy, NotOpen, NoMemory, NoSuchRow, UndoFull}
use Rattle.std.specs.FinMap.{get}
use Rattle.oe_rows.specs.declared.customers.Customer.{Customer}
use Rattle.oe_model.specs.Keys.{order_of_new_order}
use Rattle.oe_model.specs.Rows.{Rows}
use Rattle.oe_model.specs.Changes.{Change}
use Rattle.oe_model.specs.Meets.{Accepts}
use Rattle.oe_model.specs.System.{system}
use Rattle.oe_model.specs.Locks.{governs}
use Rattle.oe_model.specs.Rename.{names_of}
use Rattle.oe_change.specs.declared.writes.Write.{Write}
use Rattle.oe_change.specs.declared.writes.Write.TheVariants.{CustomerNames, InsertNewOrder}
use Rattle.oe_change.specs.Writes.{key_written, change_of}
use Rattle.oe_store.specs.Places as tables
use Rattle.oe_engine.specs.View.{EngineState, View, view_of, Handle, IsOpen}
use Rattle.oe_engine.specs.Covered.{Owns}
use Rattle.oe_engine.specs.Calls.{IsFree, IsInTheWay, IsFullFor, after_stage, StageRefused, WantsPlace}

-- the change that it is of the rows as they are, if its row is there
abbrev pub change_written : Write → View → Option Change
change_written w v = change_of w v.rows

-- beside the name of its row, whoever inserts a NEW-ORDER row holds the name of its order, and whoever gives a customer
-- other names holds alone who has the last name that it gives, and who has the last name that the customer has
abbrev pub HoldsBeside : Rows → (Name → Option theory.Mode) → Write → Type 0
HoldsBeside r held (InsertNewOrder k) = IsSome (held (name.Order (order_of_new_order k)))
HoldsBeside r held (CustomerNames k last first) =
    (held (names_of k last) ≡ Some theory.Exclusive)
    × ((x : Customer) → get r.customers k ≡ Some x → held (names_of k x.name.last) ≡ Some theory.Exclusive)
HoldsBeside r held _ = Unit {0}

-- transaction k of terminal t may make the write beside others' open work: of a row that it alone may change
abbrev pub MayWrite : Rows → (Name → Option theory.Mode) → ℕ → ℕ → Write → Type 0
MayWrite r held t k w = Owns held t k (governs (key_written w)) × HoldsBeside r held w

-- why a write without its row is refused: the transaction isn't open here; another is in the way of its lock; or that
-- is free, and memory is wanted for it or the row is absent
abbrev pub AbsentRowRefused : EngineState → Handle → Ask Name Refusal → Key → Refusal → Type 0
AbsentRowRefused s x a k NotOpen = IsOpen s x → ⊥
AbsentRowRefused s x a k (Busy n u) = IsOpen s x
    × ((m : theory.Mode) × (a ≡ Take n m) × IsInTheWay (view_of s) x.terminal n m u)
AbsentRowRefused s x a k NoMemory = IsOpen s x × IsFree (view_of s) x.terminal a
AbsentRowRefused s x a k e = IsOpen s x × IsFree (view_of s) x.terminal a × (e ≡ NoSuchRow k)

-- memory is wanted for a write of a row: a place in the tables, or one on the list of a customer's new last name
abbrev pub WantsRow : Option Change → tables.Places → Type 0
WantsRow o s = IsSomeAnd o (λ c. WantsPlace (Some c) s)

-- a write with this lock, which is this change of its row, was made
pub record IsMade (s : EngineState) (x : Handle) (a : Ask Name Refusal) (c : Change) (s' : EngineState) : Type 0 where
  -- its transaction is open
  pub is_open : IsOpen s x
  -- the lock was free
  pub free : IsFree (view_of s) x.terminal a
  -- the tables accept the change
  pub accepted : Accepts c (view_of s).rows
  -- its record had room
  pub room : IsFullFor (view_of s) x.terminal c → ⊥
  -- the lock is taken now, and the change made and recorded; nothing else has changed
  pub done : view_of s' ≡ after_stage x.terminal a (Some c) (view_of s)

-- what became of a write of a transaction that asks for this lock
pub record Writes (s : EngineState) (x : Handle) (a : Ask Name Refusal) (w : Write) (r : Result (Unit {0}) Refusal)
    (s' : EngineState) : Type 0 where
  -- it was made, as the change that it is of its row, which is there
  pub made : OnOk r (IsSomeAnd (change_written w (view_of s)) (λ c. IsMade s x a c s'))
  -- or it was refused, where its row is there, as a stage with that change
  pub cause : ForSome (change_written w (view_of s)) (λ c. IfErr r (StageRefused s x a (Some c)))
  -- or it was refused, where its row is absent
  pub absent : change_written w (view_of s) ≡ None → IfErr r (AbsentRowRefused s x a (key_written w))
  -- the ring was full only where the change's record has no room
  pub full : ForSome (change_written w (view_of s))
      (λ c. IfErr r (λ e. e ≡ UndoFull → IsFullFor (view_of s) x.terminal c))
  -- memory was wanted, where the lock is not new, only for the row
  pub wants : (IsNew system ((view_of s).held x.terminal) a → ⊥)
      → IfErr r (λ e. e ≡ NoMemory → WantsRow (change_written w (view_of s)) s.tables)
  -- after an error nothing has changed
  pub unchanged : OnErr r (view_of s' ≡ view_of s)
