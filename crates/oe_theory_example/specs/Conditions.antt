-- A condition that each transaction keeps: nothing is lost or made.
use Rattle.std.specs.Prelude.{◌≡◌, ℕ, ◌+◌, List, [], ◌∷◌}
use Rattle.std.specs.declared.cmp.Ordering.{Ordering}
use Rattle.std.specs.FinMap.{FinMap, entries}
use Rattle.oe_theory_example.specs.Rows.{Account, Entry, Tables}

-- f over all entries, added up
abbrev pub sum_entries : {K X : Type 0} → (K → X → ℕ) → List (K × X) → ℕ
sum_entries f [] = 0
sum_entries f (e ∷ es) = f e.0 e.1 + sum_entries f es

-- f over all entries of a map
abbrev pub sum_map : {K X : Type 0} → {R : K → K → Ordering} → (K → X → ℕ) → FinMap R X → ℕ
sum_map f m = sum_entries f (entries m)

-- what an account counts
abbrev pub balance : ℕ → Account → ℕ
balance k a = a.balance

-- what an entry counts
abbrev pub waiting : ℕ × ℕ → Entry → ℕ
waiting k e = e.amount

-- the money in the accounts and in the queues
abbrev pub HasMoney : ℕ → Tables → Type 0
HasMoney n r = sum_map balance r.accounts + sum_map waiting r.queues ≡ n
