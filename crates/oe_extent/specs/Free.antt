-- Which extents are free.
use Rattle.std.specs.Prelude.{◌≡◌, ◌<◌, ◌≤◌, ◌+◌, ◌⊎◌, ℕ, Bool, true, false, List, [], ◌∷◌, length, get_or, set}
use Rattle.std.specs.List.{count_by}

-- whether each extent is free, by number, and where the search for the next free one begins
pub record FreeExtents : Type 0 where
  pub is_free : List Bool
  pub cursor : ℕ

-- how many are free
abbrev pub count_of_free : List Bool → ℕ
count_of_free free = count_by (λ b. b) free

-- what a pool keeps of itself
pub record IsPool (free : List Bool) (count cursor : ℕ) : Type 0 where
  pub within : cursor ≤ length free
  pub counted : count ≡ count_of_free free

-- each extent from number i up to number j is taken
abbrev pub AllTaken : List Bool → ℕ → ℕ → Type 0
AllTaken free i j = (k : ℕ) → i ≤ k → k < j → get_or free k false ≡ false

-- the first free one from number i up to number j
pub record IsFirstFree (free : List Bool) (i j number : ℕ) : Type 0 where
  pub low : i ≤ number
  pub high : number < j
  pub is_free : get_or free number false ≡ true
  pub nearest : AllTaken free i number

-- the next free one from the cursor on, wrapping
pub record IsNextFree (free : List Bool) (cursor number : ℕ) : Type 0 where
  pub is_free : get_or free number false ≡ true
  pub nearest : (AllTaken free cursor number × (cursor ≤ number))
      ⊎ (AllTaken free cursor (length free) × AllTaken free 0 number)

-- one is taken, and the search goes on behind it
abbrev pub without_free_at : FreeExtents → ℕ → FreeExtents
without_free_at p number = record { is_free = set p.is_free number false; cursor = number + 1 }

-- one is free again
abbrev pub with_free_at : FreeExtents → ℕ → FreeExtents
with_free_at p number = record p { is_free = set p.is_free number true }

-- these extents are free again
abbrev pub with_free : List ℕ → List Bool → List Bool
with_free [] free = free
with_free (e ∷ es) free = with_free es (set free e true)

abbrev pub with_all_free : FreeExtents → List ℕ → FreeExtents
with_all_free p numbers = record p { is_free = with_free numbers p.is_free }
