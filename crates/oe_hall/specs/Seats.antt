-- The places of the terminals that have no desk yet, by number from 0.
use Rattle.std.specs.Prelude.{◌≡◌, ℕ, suc, Option, Some, None, List, [], ◌∷◌, slice_get}
use Rattle.atomic_table.specs.Seated.{TableId}
use Rattle.oe_moments.specs.Rule.{fresh}
use Rattle.oe_moments.specs.Pins.{TheSeat}
use Rattle.oe_history.specs.Calls.{TheCaller, Knows}
use Rattle.oe_history.specs.declared.views.Entry.{Entry}

-- a terminal's seat, and what it has called
pub record ThePlace : Type 0 where
  pub seat : TheSeat
  pub calls : TheCaller

-- what a shop's places are of: its words, its history and its name
pub record TheRoom : Type 0 where
  pub words : TableId
  pub history : TableId
  pub name : ℕ

-- one who has called nothing
abbrev pub silent : TableId → ℕ → TheCaller
silent history by = record { table = history; by = by; seen = []; mine = [] }

-- terminal k + 1's seat, before its desk does anything
abbrev pub fresh_seat : TableId → ℕ → ℕ → TheSeat
fresh_seat words shop k = record { words = words; shop = shop; terminal = suc k; notes = fresh k }

-- and its place
abbrev pub fresh_place : TheRoom → ℕ → ThePlace
fresh_place r k = record { seat = fresh_seat r.words r.name k; calls = silent r.history (suc k) }

-- each is so
abbrev pub AreFresh : TheRoom → List (Option ThePlace) → Type 0
AreFresh r places = (k : ℕ) (p : ThePlace) → slice_get places k ≡ Some (Some p) → p ≡ fresh_place r k

-- how many there are
abbrev pub waiting : List (Option ThePlace) → ℕ
waiting [] = 0
waiting (None ∷ xs) = waiting xs
waiting (Some p ∷ xs) = suc (waiting xs)

-- the callers of places are of this history
abbrev pub IsHere : TableId → Option ThePlace → Type 0
IsHere history None = Unit {0}
IsHere history (Some p) = p.calls.table ≡ history

abbrev pub AreHere : TableId → List (Option ThePlace) → Type 0
AreHere history [] = Unit {0}
AreHere history (p ∷ ps) = IsHere history p × AreHere history ps

-- what they know of it is so
abbrev pub HasCalled : List Entry → Option ThePlace → Type 0
HasCalled log None = Unit {0}
HasCalled log (Some p) = Knows log p.calls

abbrev pub HaveCalled : List Entry → List (Option ThePlace) → Type 0
HaveCalled log [] = Unit {0}
HaveCalled log (p ∷ ps) = HasCalled log p × HaveCalled log ps
