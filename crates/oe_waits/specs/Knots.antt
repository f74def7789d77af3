-- Chains of a relation between terminals, and the terminals that such chains lead through one another.
use Rattle.std.specs.Prelude.{◌≡◌, ◌-◌, ℕ, zero, suc, Bool, true, false, not, ◌&&◌, ◌||◌, cond, List, [], ◌∷◌}

-- one of the numbers 1 to n passes the test, and how many do
abbrev pub any_to : (ℕ → Bool) → ℕ → Bool
any_to f zero = false
any_to f (suc n) = any_to f n || f (suc n)

abbrev pub count_to : (ℕ → Bool) → ℕ → ℕ
count_to f zero = 0
count_to f (suc n) = cond (f (suc n)) (suc (count_to f n)) (count_to f n)

-- t leads to u, at once or through numbers from 1 to n
abbrev pub leads_through : (ℕ → ℕ → Bool) → ℕ → ℕ → ℕ → Bool
leads_through r zero t u = r t u
leads_through r (suc n) t u = leads_through r n t u || (leads_through r n t (suc n) && leads_through r n (suc n) u)

-- each of the two leads to the other
abbrev pub are_knotted : (ℕ → ℕ → Bool) → ℕ → ℕ → ℕ → Bool
are_knotted r n t u = leads_through r n t u && leads_through r n u t

-- t leads to itself, and none below t is knotted with it
abbrev pub is_least_knotted : (ℕ → ℕ → Bool) → ℕ → ℕ → Bool
is_least_knotted r n t = leads_through r n t t && not (any_to (are_knotted r n t) (t - 1))

-- a chain from t to u: each of the list in between is related to the next
abbrev pub Chain : (ℕ → ℕ → Bool) → ℕ → List ℕ → ℕ → Type 0
Chain r t [] u = r t u ≡ true
Chain r t (v ∷ vs) u = (r t v ≡ true) × Chain r v vs u

-- there is a chain from t to u
abbrev pub Reaches : (ℕ → ℕ → Bool) → ℕ → ℕ → Type 0
Reaches r t u = (vs : List ℕ) × Chain r t vs u

-- none leads to itself
abbrev pub HasNoCycle : (ℕ → ℕ → Bool) → Type 0
HasNoCycle r = (t : ℕ) → Reaches r t t → ⊥
