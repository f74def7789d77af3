-- A stage of a program of any kind, carried out on an engine or refused by it.
use Rattle.std.specs.Prelude.{◌≡◌, ◌⊎◌, ℕ, Bool, true, false, List, Option, Some, Result, Ok, Err}
use Rattle.oe_theory.specs.Machine.{Ask, Take, Fail, Go, Hold}
use Rattle.oe_theory.specs.Machine as theory
use Rattle.oe_theory.specs.Laws.{Holds, held_of}
use Rattle.oe_rows.specs.declared.locks.Name.{Name}
use Rattle.oe_requests.specs.declared.requests.Request.{Request}
use Rattle.oe_requests.specs.declared.refusals.Refusal.{Refusal}
use Rattle.oe_requests.specs.declared.refusals.Refusal.TheVariants.{NoSuchRow, NoCustomer, InvalidItem, Overflow}
use Rattle.oe_model.specs.Changes.{Change}
use Rattle.oe_model.specs.Locks.{mode_of}
use Rattle.oe_model.specs.Positions.{Position}
use Rattle.oe_model.specs.System.{system}
use Rattle.oe_engine.specs.View.{EngineState, View, Handle}
use Rattle.oe_locks.specs.declared.asks.Lock.{Lock}
use Rattle.oe_writes.specs.Asks.{ask_of}
use Rattle.oe_engine.specs.Calls.{IsFree, IsBusy}
use Rattle.oe_engine.specs.Programs.{ask_here, act_here, GoesOn, IsStageRefusal}

-- the refusals that a stage fails with
abbrev pub is_failure : Refusal → Bool
is_failure (NoSuchRow k) = true
is_failure NoCustomer = true
is_failure InvalidItem = true
is_failure (Overflow c) = true
is_failure _ = false

-- each stage that asks for this lock and fails so is refused with the last
abbrev pub IsFailure : EngineState → Handle → Lock → Refusal → Refusal → Type 0
IsFailure s x l f e =
    (q : Request) (p : Position) → ask_here s x q p ≡ Take l.name (mode_of l.mode) → act_here s x q p ≡ Fail f
    → IsStageRefusal s x q p e

-- it is refused with that where the lock is free, and else it is told who is in the way
abbrev pub FailsBeside : View → ℕ → Lock → Refusal → Refusal → Type 0
FailsBeside v t l f e = (IsFree v t (ask_of (Some l)) × (e ≡ f)) ⊎ IsBusy v t l e

-- each stage that asks for this lock and makes this change, if it makes one, was done and left s', or was refused
abbrev pub Does : EngineState → Handle → Ask Name Refusal → Option Change → Result (Unit {0}) Refusal → EngineState
    → Type 0
Does s x a c (Ok u) s' = (q : Request) (p p' : Position) → ask_here s x q p ≡ a → act_here s x q p ≡ Go c p'
    → GoesOn s x q p s' p'
Does s x a c (Err e) s' = (q : Request) (p p' : Position) → ask_here s x q p ≡ a → act_here s x q p ≡ Go c p'
    → IsStageRefusal s x q p e

-- a terminal holds each of these names in its mode, or in a higher one
abbrev pub HoldsAll : View → ℕ → List (Hold Name) → Type 0
HoldsAll v t hs = (n : Name) (m : theory.Mode) → Holds system hs n m → held_of system (v.held t) n m
