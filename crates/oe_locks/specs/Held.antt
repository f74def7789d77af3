-- Names that are held by terminals, and the modes in which they are held.
use Rattle.std.specs.Prelude.{◌≡◌, ◌≢◌, ℕ, ◌<◌, ◌==◌, ◌&&◌, Bool, true, false, Option, None, Some, List, []}
use Rattle.std.specs.Prelude.{if◌then◌else◌, get_or}
use Rattle.std.specs.Map.{lookup, keys_of}
use Rattle.std.specs.Str.{bytes_eq}
use Rattle.oe_rows.specs.contracts.locks.NamePartialEq.TheImpl.{ghosts}
use Rattle.oe_rows.specs.declared.locks.Name.{Name}
use Rattle.oe_rows.specs.declared.locks.Name.TheVariants.{Warehouse, District, Customer, Order, Queue, Stock, Names}
use Rattle.oe_rows.specs.declared.locks.Mode.{Mode}
use Rattle.oe_rows.specs.declared.locks.Mode.TheVariants.{Shared, Exclusive}
use Rattle.oe_requests.specs.declared.refusals.Refusal.{Refusal}
use Rattle.oe_requests.specs.declared.refusals.Refusal.TheVariants.{Busy, NoMemory}
use Rattle.oe_locks.specs.Terminals.{has}

-- the two are one name: of one kind, with the same columns and letters
abbrev pub is_name : Name → Name → Bool
is_name (Warehouse a) (Warehouse b) = a.warehouse == b.warehouse
is_name (District a) (District b) = (a.warehouse == b.warehouse) && (a.district == b.district)
is_name (Customer a) (Customer b) = (a.warehouse == b.warehouse) &&
    ((a.district == b.district) && (a.customer == b.customer))
is_name (Order a) (Order b) = (a.warehouse == b.warehouse) && ((a.district == b.district) && (a.order == b.order))
is_name (Queue a) (Queue b) = (a.warehouse == b.warehouse) && (a.district == b.district)
is_name (Stock a) (Stock b) = (a.warehouse == b.warehouse) && (a.item == b.item)
is_name (Names a x) (Names b y) = ((a.warehouse == b.warehouse) && (a.district == b.district)) && bytes_eq x y
is_name _ _ = false

-- two modes of one name may be held by two terminals
abbrev pub go_together : Mode → Option Mode → Bool
go_together m None = true
go_together Shared (Some Shared) = true
go_together Shared (Some Exclusive) = false
go_together Exclusive (Some n) = false

-- the greater of the mode that is asked for and the mode held
abbrev pub greater_mode : Mode → Option Mode → Mode
greater_mode Exclusive old = Exclusive
greater_mode Shared None = Shared
greater_mode Shared (Some m) = m

-- one mode is below another, where none is below Shared, and Shared below Exclusive
abbrev pub IsBelow : Option Mode → Option Mode → Type 0
IsBelow None (Some m) = Unit {0}
IsBelow (Some Shared) (Some Exclusive) = Unit {0}
IsBelow _ _ = ⊥

-- what each terminal holds, by its number: names, each in a mode, in the order in which they were taken
abbrev pub Holdings : Type 0
Holdings = List (List (Name × Mode))

-- the names and modes of a terminal. 0 is no terminal's number, and its list is empty
abbrev pub entries_of : Holdings → ℕ → List (Name × Mode)
entries_of locks t = get_or locks t []

-- the mode in which a terminal holds a name
unfoldable pub mode_held : Holdings → ℕ → Name → Option Mode
mode_held locks t q = lookup (ghosts.eq q) (entries_of locks t)

-- the names that a terminal holds, in the order in which it took them
abbrev pub names_of : Holdings → ℕ → List Name
names_of locks t = keys_of (entries_of locks t)

-- the terminal holds no name
abbrev pub HoldsNothing : Holdings → ℕ → Type 0
HoldsNothing locks t = (q : Name) → mode_held locks t q ≡ None

-- no terminal holds a name
abbrev pub IsIdle : Holdings → Type 0
IsIdle locks = (t : ℕ) → HoldsNothing locks t

-- no other terminal holds the name in a mode that conflicts
abbrev pub IsFreeFor : Holdings → ℕ → Name → Mode → Type 0
IsFreeFor locks t n m = (u : ℕ) → u ≢ t → go_together m (mode_held locks u n) ≡ true

-- the least other terminal that holds the name in a mode that conflicts
pub record IsInTheWay (locks : Holdings) (t : ℕ) (n : Name) (m : Mode) (u : ℕ) : Type 0 where
  pub other : u ≢ t
  pub conflicts : go_together m (mode_held locks u n) ≡ false
  pub least : (v : ℕ) → v < u → v ≢ t → go_together m (mode_held locks v n) ≡ true

-- the terminal has taken the name in the greater of the mode asked for and the mode held, and holds every other name as
-- before
abbrev pub Takes : Holdings → Holdings → ℕ → Name → Mode → Type 0
Takes old new t n m = (q : Name) → mode_held new t q
    ≡ (if is_name q n then Some (greater_mode m (mode_held old t q)) else mode_held old t q)

-- the terminal now holds the name in that mode or not at all, and every other name as before
abbrev pub GivesBack : Holdings → Holdings → ℕ → Name → Option Mode → Type 0
GivesBack old new t n m = (q : Name) → mode_held new t q ≡ (if is_name q n then m else mode_held old t q)

-- every other terminal holds what it held
abbrev pub OthersKeep : Holdings → Holdings → ℕ → Type 0
OthersKeep old new t = (u : ℕ) → u ≢ t → (q : Name) → mode_held new u q ≡ mode_held old u q

-- why a name is refused: another terminal is in the way, or memory is wanted for a name that is free and is not yet
-- held
abbrev pub IsCause : Holdings → ℕ → Name → Mode → Refusal → Type 0
IsCause locks t n m (Busy name u) = (name ≡ n) × IsInTheWay locks t n m u
IsCause locks t n m NoMemory = IsFreeFor locks t n m × (mode_held locks t n ≡ None)
IsCause locks t n m _ = ⊥

-- a terminal that is not in the set holds nothing
abbrev pub AreBusy : ℕ → Holdings → Type 0
AreBusy busy locks = (t : ℕ) → has busy t ≡ false → entries_of locks t ≡ []

-- the least of those terminals that holds the name in a mode that conflicts
pub record IsFirstAmong (locks : Holdings) (others : ℕ) (n : Name) (m : Mode) (u : ℕ) : Type 0 where
  pub other : has others u ≡ true
  pub conflicts : go_together m (mode_held locks u n) ≡ false
  pub least : (v : ℕ) → v < u → has others v ≡ true → go_together m (mode_held locks v n) ≡ true
