-- A table is seen as the list of its places, in the keys' order: each has a row, or is blanked.
use Rattle.std.specs.Prelude.{◌≡◌, cond, filter, List, [], ◌∷◌, Option, None, Some, is_some}
use Rattle.std.specs.declared.cmp.Ordering.{Ordering}
use Rattle.std.specs.BTreeMap.{is_at}
use Rattle.std.specs.Map.{lookup}
use Rattle.std.specs.FinMap.{FinMap, empty, insert, remove}

-- the finite map with `row` at `key`, or without it
abbrev pub put : {K R : Type 0} {cmp : K → K → Ordering} → FinMap cmp R → K → Option R → FinMap cmp R
put m key None = remove m key
put m key (Some row) = insert m key row

-- the rows with their keys, in the keys' order
abbrev pub live : {K R : Type 0} → List (K × Option R) → List (K × R)
live [] = []
live ((key, None) ∷ t) = live t
live ((key, Some row) ∷ t) = (key, row) ∷ live t

-- the places that have a row
abbrev pub with_rows : {K R : Type 0} → List (K × Option R) → List (K × Option R)
with_rows t = filter (λ e. is_some e.1) t

-- what is left of a place where a blanked one is given up
abbrev pub left_of : {R : Type 0} → Option (Option R) → Option (Option R)
left_of None = None
left_of (Some None) = None
left_of (Some (Some row)) = Some (Some row)

module _ {K R : Type 0} (cmp : K → K → Ordering) where
  -- what stands at a key: nothing, a blanked place, or a row
  abbrev pub place : List (K × Option R) → K → Option (Option R)
  place t key = lookup (is_at (cmp key)) t

  -- the key has a place
  abbrev pub HasPlace : List (K × Option R) → K → Type 0
  HasPlace t key = (p : Option R) × (place t key ≡ Some p)

  -- the key was blanked
  abbrev pub IsBlanked : List (K × Option R) → K → Type 0
  IsBlanked t key = place t key ≡ Some None

  -- the place at `key` is now `p`, and each other key's is as before
  abbrev pub SetsPlace : List (K × Option R) → List (K × Option R) → K → Option R → Type 0
  SetsPlace old new key p = (other : K) → place new other ≡ cond (is_at (cmp key) other) (Some p) (place old other)

  -- a blanked key has no place any more; a row, and each other key's place, is as before
  abbrev pub GivesUpPlace : List (K × Option R) → List (K × Option R) → K → Type 0
  GivesUpPlace old new key = (other : K) → place new other ≡ cond (is_at (cmp key) other) (left_of (place old key))
      (place old other)

  -- no blanked key has a place any more, and each row stays in its own
  abbrev pub GivesUpBlanked : List (K × Option R) → List (K × Option R) → Type 0
  GivesUpBlanked old new = (key : K) → place new key ≡ left_of (place old key)

  -- the key has no place any more, and each other key's is as before
  abbrev pub LosesPlace : List (K × Option R) → List (K × Option R) → K → Type 0
  LosesPlace old new key = (other : K) → place new other ≡ cond (is_at (cmp key) other) None (place old other)

  -- the rows, as a finite map
  abbrev pub rows_of : List (K × Option R) → FinMap cmp R
  rows_of [] = empty
  rows_of (e ∷ t) = put (rows_of t) e.0 e.1

  -- the key's place has `row` in place of another row
  pub record RewritesRow (old new : List (K × Option R)) (key : K) (row : R) : Type 0 where
    pub places : SetsPlace old new key (Some row)
    pub rows : rows_of new ≡ insert (rows_of old) key row
