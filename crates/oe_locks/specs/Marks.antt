-- Marks of names, and who may hold a name with a mark.
use Rattle.std.specs.Prelude.{◌≡◌, ℕ, ◌+◌, ◌%◌, Bool, false, List, get_or, Option, None, cond}
use Rattle.std.specs.Map.{lookup}
use Rattle.oe_rows.specs.declared.locks.Name.{Name}
use Rattle.oe_rows.specs.declared.locks.Name.TheVariants.{Warehouse, District, Customer, Order, Queue, Stock, Names}
use Rattle.oe_rows.specs.declared.locks.Mode.{Mode}
use Rattle.oe_rows.specs.contracts.locks.NamePartialEq.TheImpl.{ghosts}
use Rattle.oe_locks.specs.Held.{Holdings, mode_held}
use Rattle.oe_locks.specs.Terminals.{has}

-- a number by which names of one transaction mostly differ
abbrev pub number_of_name : Name → ℕ
number_of_name (Stock k) = k.item
number_of_name (Customer k) = k.customer
number_of_name (Order k) = k.order
number_of_name (Warehouse k) = k.warehouse
number_of_name (District k) = 16 + k.district + k.warehouse
number_of_name (Queue k) = 32 + k.district + k.warehouse
number_of_name (Names k x) = 48 + k.district + k.warehouse

-- a name's mark
unfoldable pub mark : Name → ℕ
mark n = number_of_name n % 64

-- the terminal is in the set of the mark
abbrev pub may_hold : List ℕ → ℕ → ℕ → Bool
may_hold sets k t = has (get_or sets k 0) t

-- a terminal that is not in the set of a name's mark does not hold the name
abbrev pub AreNoted : List ℕ → Holdings → Type 0
AreNoted sets locks = (t : ℕ) (q : Name) → may_hold sets (mark q) t ≡ false → mode_held locks t q ≡ None

-- a name has another mode, or none, and every other name the mode that it had
abbrev pub Changes : List (Name × Mode) → List (Name × Mode) → Name → Option Mode → Type 0
Changes old new n after = (q : Name) → lookup (ghosts.eq q) new ≡ cond (ghosts.eq n q) after (lookup (ghosts.eq q) old)
