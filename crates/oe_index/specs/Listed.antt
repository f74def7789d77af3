-- Keys in lists under numbers, and the rows that are found by a list.
use Rattle.std.specs.Prelude.{◌≡◌, ◌≢◌, ◌↔◌, ◌⊎◌, ℕ, ⊤, Bool, true, false, List, [], ◌∷◌, Option, None, Some, IsSome}
use Rattle.std.specs.Prelude.{slice_index_or}
use Rattle.std.specs.Ordering.{eq_by_cmp, nat_cmp}
use Rattle.std.specs.Cmp.Lexicographic.{slice_cmp}
use Rattle.std.specs.declared.cmp.Ordering.{Ordering}
use Rattle.std.specs.FinMap.{FinMap, get}
use Rattle.oe_table.specs.Table.{place}
use Rattle.oe_table.specs.Shelf.{IsAscending}
use Rattle.oe_rows.specs.declared.customers.Customer.{Customer}

-- a list of keys
abbrev pub Keys : Type 0 → Type 0
Keys K = List (K × Option (Unit {0}))

-- a table whose rows are found by lists too: its places, the keys that are listed under each number, and whether the
-- lists stand; else they were given up
pub record Indexed (K X : Type 0) : Type 0 where
  pub places : List (K × Option X)
  pub lists : List (Keys K)
  pub is_listed : Bool

-- the lists are as before, and stand where they did
abbrev pub KeepsLists : {K X : Type 0} → Indexed K X → Indexed K X → Type 0
KeepsLists old new = (new.lists ≡ old.lists) × (new.is_listed ≡ old.is_listed)

-- a list of one key
abbrev pub alone : {K : Type 0} → K → Keys K
alone k = (k, Some tt) ∷ []

-- a single key, or else the other list
abbrev pub single_or : {K : Type 0} → Option K → Keys K → Keys K
single_or None ks = ks
single_or (Some k) ks = alone k

-- a single key, if there is one, before others
abbrev pub single_before : {K : Type 0} → Option K → Keys K → Keys K
single_before None ks = ks
single_before (Some k) ks = (k, Some tt) ∷ ks

-- a key and its row, if it has one, before others
abbrev pub with_row : {K X : Type 0} → K → Option X → List (K × X) → List (K × X)
with_row k None es = es
with_row k (Some x) es = (k, x) ∷ es

module _ {K : Type 0} (cmp : K → K → Ordering) where
  -- the key is in the list under the number
  abbrev pub IsListed : List (Keys K) → ℕ → K → Type 0
  IsListed ls n k = IsSome (place cmp (slice_index_or ls n []) k)

  -- each key that was listed is listed
  abbrev pub ListsMore : List (Keys K) → List (Keys K) → Type 0
  ListsMore old new = (n : ℕ) (k : K) → IsListed old n k → IsListed new n k

  -- the key may be in the list under the number, and else each key is listed as before
  pub record ListsAtMost (old new : List (Keys K)) (number : ℕ) (key : K) : Type 0 where
    pub kept : ListsMore old new
    pub only : (n : ℕ) (k : K) → IsListed new n k → IsListed old n k ⊎ ((n ≡ number) × (k ≡ key))

  -- the key is off the list under the number, and else each key is listed as before
  abbrev pub Unlists : List (Keys K) → List (Keys K) → ℕ → K → Type 0
  Unlists old new number key = (n : ℕ) (k : K) → IsListed new n k ↔ (IsListed old n k × ((n ≡ number) × (k ≡ key) → ⊥))

  -- the keys of each list ascend
  abbrev pub AreLists : List (Keys K) → Type 0
  AreLists [] = ⊤
  AreLists (l ∷ ls) = IsAscending cmp l × AreLists ls

  module _ {X : Type 0} where
    -- the rows at the keys of a list
    abbrev pub rows_at_keys : FinMap cmp X → Keys K → List (K × X)
    rows_at_keys m [] = []
    rows_at_keys m (e ∷ es) = with_row e.0 (get m e.0) (rows_at_keys m es)

    -- each row's key is in the list of its number, unless the lists were given up
    abbrev pub AreListed : (K → X → ℕ) → Bool → List (Keys K) → FinMap cmp X → Type 0
    AreListed number_of listed ls m =
        listed ≡ true → (k : K) (x : X) → get m k ≡ Some x → IsListed ls (number_of k x) k

-- whether the row is of that C_LAST
abbrev pub is_name : List ℕ → Option Customer → Bool
is_name last None = false
is_name last (Some x) = eq_by_cmp (slice_cmp nat_cmp) x.name.last last

-- the row is there, and its C_LAST is another one
abbrev pub HasOtherName : List ℕ → Option Customer → Type 0
HasOtherName last o = (c : Customer) × (o ≡ Some c) × (last ≢ c.name.last)
