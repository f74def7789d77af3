-- How many keys differ.
use Rattle.std.specs.Prelude.{◌≡◌, ◌≢◌, ◌↔◌, ◌⊎◌, ℕ, List, [], ◌∷◌, length, map, None}
use Rattle.std.specs.List.Sorted.{IsStrictlySortedBy}
use Rattle.std.specs.declared.cmp.Ordering.{Ordering}
use Rattle.oe_comparison.specs.Columns.{first_other}
use Rattle.oe_comparison.specs.Differences.{Difference, Extra, Missing, Column, differences}

-- the key of a difference
abbrev pub key_of : {K : Type 0} → Difference K → K
key_of (Extra k) = k
key_of (Missing k) = k
key_of (Column k c) = k

-- one of these rows has the key
abbrev pub HasKey : {K : Type 0} → List (K × List (List ℕ)) → K → Type 0
HasKey [] k = ⊥
HasKey (e ∷ es) k = (k ≡ e.0) ⊎ HasKey es k

-- one of these rows has the key, and these columns
abbrev pub HasRow : {K : Type 0} → List (K × List (List ℕ)) → K → List (List ℕ) → Type 0
HasRow [] k x = ⊥
HasRow (e ∷ es) k x = ((k ≡ e.0) × (x ≡ e.1)) ⊎ HasRow es k x

-- both sides have a row of the key, and a column differs
pub record DifferInColumn {K : Type 0} (theirs ours : List (K × List (List ℕ))) (k : K) : Type 0 where
  pub their_columns : List (List ℕ)
  pub our_columns : List (List ℕ)
  pub their_row : HasRow theirs k their_columns
  pub our_row : HasRow ours k our_columns
  pub differ : first_other 0 their_columns our_columns ≢ None

-- the sides differ at the key: one alone has a row of it, or both have, and a column differs
abbrev pub DifferAt : {K : Type 0} → List (K × List (List ℕ)) → List (K × List (List ℕ)) → K → Type 0
DifferAt theirs ours k =
    (HasKey theirs k × (HasKey ours k → ⊥)) ⊎ ((HasKey ours k × (HasKey theirs k → ⊥)) ⊎ DifferInColumn theirs ours k)

-- it is one of these keys
abbrev pub IsAmong : {K : Type 0} → List K → K → Type 0
IsAmong [] k = ⊥
IsAmong (x ∷ xs) k = (k ≡ x) ⊎ IsAmong xs k

-- the keys of rows ascend
abbrev pub Ascend : {K : Type 0} → (K → K → Ordering) → List (K × List (List ℕ)) → Type 0
Ascend cmp rows = IsStrictlySortedBy cmp (map (λ e. e.0) rows)

-- n keys are such: a list has each of them once, in order, and no other
pub record AreSoMany {K : Type 0} (cmp : K → K → Ordering) (IsSuch : K → Type 0) (n : ℕ) : Type 0 where
  pub keys : List K
  pub ascend : IsStrictlySortedBy cmp keys
  pub exactly : (k : K) → IsAmong keys k ↔ IsSuch k
  pub number : n ≡ length keys

-- Where the keys of both sides ascend, there are as many differences as keys at which the sides differ.
abbrev pub Differences_are_counted : {K : Type 0} → (K → K → Ordering) → Type 0
Differences_are_counted {K} cmp =
    (theirs ours : List (K × List (List ℕ))) → Ascend cmp theirs → Ascend cmp ours
    → AreSoMany cmp (DifferAt theirs ours) (length (differences cmp theirs ours))
