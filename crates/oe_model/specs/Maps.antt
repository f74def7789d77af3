-- What the whole effects and conditions say of a finite map.
use Rattle.std.specs.Prelude.{ℕ, List, [], ◌∷◌, map, sum_by}
use Rattle.std.specs.declared.cmp.Ordering.{Ordering}
use Rattle.std.specs.FinMap.{FinMap, entries, insert, from_sorted}

module _ {K X : Type 0} {R : K → K → Ordering} where
  -- each row x of a key k is now f k x
  abbrev pub each : (K → X → X) → FinMap R X → FinMap R X
  each f m = from_sorted (map (λ e. (e.0, f e.0 e.1)) (entries m))

  -- with these entries, a later one in place of an earlier one of its key
  abbrev pub with_all : List (K × X) → FinMap R X → FinMap R X
  with_all [] m = m
  with_all (e ∷ es) m = with_all es (insert m e.0 e.1)

  -- the sum of a number of each row
  abbrev pub sum_of : (K → X → ℕ) → FinMap R X → ℕ
  sum_of f m = sum_by (λ e. f e.0 e.1) (entries m)
