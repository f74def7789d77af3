-- Lists of the names that a terminal holds, and how they change.
use Rattle.std.specs.Prelude.{◌≡◌, ◌≢◌, ℕ, Bool, false, not, Option, None, Some, List, [], ◌∷◌, ◌++◌}
use Rattle.std.specs.Prelude.{◌||◌, is_some, filter, if◌then◌else◌}
use Rattle.oe_rows.specs.declared.locks.Name.{Name}
use Rattle.oe_rows.specs.declared.locks.Mode.{Mode}
use Rattle.oe_locks.specs.Held.{Holdings, mode_held, is_name, names_of}

-- the name stands on the list
abbrev pub stands : List Name → Name → Bool
stands [] q = false
stands (x ∷ xs) q = is_name q x || stands xs q

-- no name stands twice on the list
abbrev pub AreOnce : List Name → Type 0
AreOnce [] = Unit {0}
AreOnce (x ∷ xs) = (stands xs x ≡ false) × AreOnce xs

-- exactly the names that the terminal holds stand on the list
abbrev pub IsListed : Holdings → ℕ → List Name → Type 0
IsListed locks t names = (q : Name) → stands names q ≡ is_some (mode_held locks t q)

-- names once one is taken: one that is there keeps its place, and a new one goes last
abbrev pub taken_names : List Name → Name → List Name
taken_names names n = if stands names n then names else names ++ n ∷ []

-- names once one is given back: one that is held in another mode keeps its place, and one that is let go of leaves; the
-- others keep their order
abbrev pub given_back_names : List Name → Name → Option Mode → List Name
given_back_names names n (Some m) = names
given_back_names names n None = filter (λ x. not (is_name x n)) names

-- every other terminal has its names in the order in which it had them
abbrev pub OthersKeepNames : Holdings → Holdings → ℕ → Type 0
OthersKeepNames old new t = (u : ℕ) → u ≢ t → names_of new u ≡ names_of old u
