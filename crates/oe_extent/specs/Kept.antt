-- How strings lie in extents: what a ring keeps of itself.
use Rattle.std.specs.Prelude.{◌≡◌, ◌<◌, ◌≤◌, ◌+◌, ◌==◌, ℕ, Bool, true, false, List, [], ◌∷◌, ◌++◌, length, get_or, ⊤}
use Rattle.std.specs.Prelude.{if◌then◌else◌}
use Rattle.std.specs.List.{AllByRecursion, sum_by}
use Rattle.oe_extent.specs.declared.sizes.TheConstants.{EXTENT_BYTES}
use Rattle.oe_extent.specs.Strings.{bytes_of_strings}
use Rattle.oe_extent.specs.Extents.{Contents, numbers_of, rest_of}
use Rattle.oe_extent.specs.Free.{count_of_free}
use Rattle.oe_extent.specs.Ring.{Addressed}

-- the strings of one extent with their addresses
abbrev pub addressed_in : ℕ → List (List ℕ) → List Addressed
addressed_in n [] = []
addressed_in n (x ∷ xs) =
    record { address = record { extent = n; offset = length (bytes_of_strings xs) }; bytes = x }
    ∷ addressed_in n xs

-- the strings of a list of extents, with their addresses
abbrev pub addressed_of : List Contents → List Addressed
addressed_of [] = []
addressed_of (c ∷ cs) = addressed_in c.number c.strings ++ addressed_of cs

-- the oldest of x and the strings behind it did not fit into `rest` bytes
abbrev pub Opens : ℕ → List ℕ → List (List ℕ) → Type 0
Opens rest x [] = rest < length x
Opens rest x (y ∷ ys) = Opens rest y ys

-- none of these strings is empty
abbrev pub HaveBytes : List (List ℕ) → Type 0
HaveBytes xs = AllByRecursion (λ x. 0 < length x) xs

-- one extent has these strings, and the extent before it has `rest` bytes left
abbrev pub FillsUp : ℕ → List (List ℕ) → Type 0
FillsUp rest [] = ⊥
FillsUp rest (x ∷ xs) =
    Opens rest x xs × (length (bytes_of_strings (x ∷ xs)) ≤ EXTENT_BYTES) × HaveBytes (x ∷ xs)

-- each extent has strings, and its first did not fit into the extent before
abbrev pub ArePacked : List Contents → Type 0
ArePacked [] = ⊤
ArePacked (c ∷ cs) = FillsUp (rest_of cs) c.strings × ArePacked cs

-- how often a number stands in a list
abbrev pub times : ℕ → List ℕ → ℕ
times e [] = 0
times e (x ∷ xs) = (if x == e then 1 else 0) + times e xs

-- how often an extent is in the lists of slots and of commits
abbrev pub uses : List (List Contents) → List (List Contents) → ℕ → ℕ
uses active committed e =
    sum_by (λ s. times e (numbers_of s)) active + sum_by (λ s. times e (numbers_of s)) committed

-- how many extents these lists have
abbrev pub extent_count : List (List Contents) → List (List Contents) → ℕ
extent_count active committed = sum_by length active + sum_by length committed

-- `count` extents are used, each once, and the others are free
pub record AreHeld (free : List Bool) (uses : ℕ → ℕ) (count : ℕ) : Type 0 where
  pub once : (e : ℕ) → uses e ≤ 1
  pub taken : (e : ℕ) → 0 < uses e → get_or free e true ≡ false
  pub counted : count + count_of_free free ≡ length free

pub record IsRing (free : List Bool) (active committed : List (List Contents)) : Type 0 where
  pub held : AreHeld free (uses active committed) (extent_count active committed)
  pub active_packed : (slot : ℕ) → ArePacked (get_or active slot [])
  pub committed_packed : (i : ℕ) → ArePacked (get_or committed i [])
