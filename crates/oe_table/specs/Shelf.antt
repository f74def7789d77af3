-- A shelf is the list of its places in the keys' order, and shelves stand one after another.
use Rattle.std.specs.Prelude.{◌≡◌, ℕ, suc, ◌<◌, ◌≤◌, ⊤, Bool, cond, List, [], ◌∷◌, ◌++◌, length, Option, Some, None}
use Rattle.std.specs.Prelude.{is_some, Result, Ok, Err, ◌+◌, ◌==◌, take, drop, slice_index_or}
use Rattle.std.specs.List.{AllByRecursion, HoldsAt, insert}
use Rattle.std.specs.List.Sorted.{IsStrictlySortedBy}
use Rattle.std.specs.Map.{keys_of, lookup, set_value}
use Rattle.std.specs.BTreeMap.{is_at}
use Rattle.std.specs.Ordering.{is_lt, is_le}
use Rattle.std.specs.declared.cmp.Ordering.{Ordering}
use Rattle.std.specs.declared.cmp.Ordering.TheVariants.{Equal}

-- the lists, one after another
abbrev pub whole_list : {A : Type 0} → List (List A) → List A
whole_list [] = []
whole_list (s ∷ ss) = s ++ whole_list ss

-- what stands from the i-th element of the a-th list on and before the j-th of the b-th
abbrev pub cut_between : {A : Type 0} → List (List A) → ℕ → ℕ → ℕ → ℕ → List A
cut_between ss a i b j =
    cond (a == b) (drop i (take j (slice_index_or ss a [])))
    (drop i (slice_index_or ss a []) ++ (whole_list (drop (a + 1) (take b ss)) ++ take j (slice_index_or ss b [])))

-- how many elements stand before the first that fails
abbrev pub front : {A : Type 0} → (A → Bool) → List A → ℕ
front test [] = 0
front test (x ∷ xs) = cond (test x) (suc (front test xs)) 0

module _ {K X : Type 0} (cmp : K → K → Ordering) where
  -- the first place whose key is not less
  abbrev pub lower : List (K × X) → K → ℕ
  lower s key = front (λ e. is_lt (cmp e.0 key)) s

  -- the first place whose key is greater
  abbrev pub upper : List (K × X) → K → ℕ
  upper s key = front (λ e. is_le (cmp e.0 key)) s

  -- the keys ascend
  abbrev pub IsAscending : List (K × X) → Type 0
  IsAscending s = IsStrictlySortedBy cmp (keys_of s)

  -- the key stands at the i-th place
  abbrev pub StandsAt : List (K × X) → K → ℕ → Type 0
  StandsAt s key i = (i < length s) × HoldsAt (λ e. cmp e.0 key ≡ Equal) s i

  -- where a search for the key ended: at the key, or where it would stand
  abbrev pub IsFound : List (K × X) → K → Result ℕ ℕ → Type 0
  IsFound s key (Ok i) = StandsAt s key i
  IsFound s key (Err i) = (i ≤ length s) × (i ≡ lower s key) × (lookup (is_at (cmp key)) s ≡ None)

  -- the shelf with `v` at the key, in its place or in a new one
  abbrev pub put_at : List (K × X) → K → X → List (K × X)
  put_at s key v =
      cond (is_some (lookup (is_at (cmp key)) s)) (set_value (is_at (cmp key)) s v) (insert s (lower s key) (key, v))

  -- the shelves ascend, and from the n-th on each has the keys of its number
  unfoldable pub AreShelves : (K → ℕ) → ℕ → List (List (K × X)) → Type 0
  AreShelves shelf_of n [] = ⊤
  AreShelves shelf_of n (s ∷ ss) =
      IsAscending s × AllByRecursion (λ k. shelf_of k ≡ n) (keys_of s) × AreShelves shelf_of (suc n) ss

-- the shelf without the key's place
abbrev pub without : {K X : Type 0} → (K → K → Ordering) → List (K × X) → K → List (K × X)
without cmp [] key = []
without cmp (e ∷ s) key = cond (is_at (cmp key) e.0) s (e ∷ without cmp s key)

-- the shelf without the key's place, where that is blanked
abbrev pub without_blanked : {K R : Type 0} → (K → K → Ordering) → List (K × Option R) → K → List (K × Option R)
without_blanked cmp [] key = []
without_blanked cmp ((k, None) ∷ s) key = cond (is_at (cmp key) k) s ((k, None) ∷ without_blanked cmp s key)
without_blanked cmp ((k, Some row) ∷ s) key = (k, Some row) ∷ without_blanked cmp s key
