-- Tables that are filled, key after key.
use Rattle.std.specs.Prelude.{◌≡◌, true, cond, Bool, Some, None}
use Rattle.std.specs.declared.cmp.Ordering.{Ordering}
use Rattle.std.specs.FinMap.{FinMap, get}

module _ {K X : Type 0} {R : K → K → Ordering} where
  -- no key that passes the test has a row
  abbrev pub IsFree : (K → Bool) → FinMap R X → Type 0
  IsFree test m = (k : K) → test k ≡ true → get m k ≡ None

  -- each key k that passes the test has the row `row k` now, and each other key what it had
  abbrev pub Fills : (K → Bool) → (K → X) → FinMap R X → FinMap R X → Type 0
  Fills test row old new = (k : K) → get new k ≡ cond (test k) (Some (row k)) (get old k)
