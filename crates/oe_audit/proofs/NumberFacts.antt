-- The greatest and the least of a list of numbers, and numbers that rise without gaps.
use Rattle.std.proofs.Common.{◌≡◌, ℕ, ◌+◌, ◌-◌, ◌<◌, ◌≤◌, refl, sym, ◌∙◌, ap, Bool, true, false, List, [], ◌∷◌, length}
use Rattle.std.proofs.Common.{Option, Some, None, inl, inr, max, arith}
use Rattle.std.specs.Prelude.{◌⊎◌, ◌==◌, ◌&&◌}
use Rattle.std.specs.List.{fold, reduce}
use Rattle.std.proofs.lemmas.Bool.{eq-eqb, eqb-true, eqb-false, ne_eqb, cases_order}
use Rattle.oe_model.specs.Lists.{IsAmong}
use Rattle.oe_model.specs.Conditions.{IsGreatest, IsLeast}
use Rattle.oe_model.specs.Audits.{greatest, least, none_or}
use Rattle.oe_model.proofs.EntryFacts.{EachOf}
use Rattle.oe_model.proofs.FirstFacts.{greatest_found, least_found}
use Rattle.oe_audit.specs.Tests.{follows}
use Rattle.oe_audit.proofs.SumFacts.{same_test}

module _ {A : Type 0} where
  each_there : (ys xs : List A) → ((x : A) → IsAmong x xs → IsAmong x ys) → EachOf (λ x. IsAmong x ys) xs
  each_there ys [] h = tt
  each_there ys (x ∷ xs) h = (h x (inl refl), each_there ys xs (λ y k. h y (inr k)))

  each_among_own : (xs : List A) → EachOf (λ x. IsAmong x xs) xs
  each_among_own xs = each_there xs xs (λ x k. k)

-- the greatest is what `max` folds to
one_of_two : (n x : ℕ) → (n ≡ max n x) ⊎ (x ≡ max n x)
one_of_two n x = elim (cases_order n x) [
  | inl e ↦ inl (omega arith)
  | inr other ↦ elim other [ inl l ↦ inr (omega arith) | inr l ↦ inl (omega arith) ]
]

highest : (n : ℕ) (ns : List ℕ) → IsGreatest (λ i. IsAmong i (n ∷ ns)) (fold max n ns)
highest n [] = (inl refl, within)
  where
    within : (i : ℕ) → IsAmong i (n ∷ []) → i ≤ n
    within i (inl e) = omega arith
    within i (inr f) = absurd f
highest n (x ∷ xs) = further (fold max (max n x) xs) (highest (max n x) xs)
  where
    there : (top : ℕ) → (max n x ≡ top) ⊎ IsAmong top xs → IsAmong top (n ∷ x ∷ xs)
    there top (inl e) = elim (one_of_two n x) [ inl a ↦ inl (a ∙ e) | inr b ↦ inr (inl (b ∙ e)) ]
    there top (inr k) = inr (inr k)

    within : (top : ℕ) → IsGreatest (λ i. IsAmong i (max n x ∷ xs)) top → (i : ℕ) → IsAmong i (n ∷ x ∷ xs) → i ≤ top
    within top g i (inl e) = let h = g.1 (max n x) (inl refl) in omega arith
    within top g i (inr (inl e)) = let h = g.1 (max n x) (inl refl) in omega arith
    within top g i (inr (inr k)) = g.1 i (inr k)

    further : (top : ℕ) → IsGreatest (λ i. IsAmong i (max n x ∷ xs)) top → IsGreatest (λ i. IsAmong i (n ∷ x ∷ xs)) top
    further top g = (there top g.0, within top g)

pub greatest_reduced : (ns : List ℕ) → reduce max ns ≡ greatest ns
greatest_reduced [] = refl
greatest_reduced (n ∷ ns) =
    sym (greatest_found (λ i. IsAmong i (n ∷ ns)) (n ∷ ns) (each_among_own (n ∷ ns)) (λ i k. k) (fold max n ns)
    (highest n ns))

-- numbers that rise, from one on
abbrev pub Rises : ℕ → List ℕ → Type 0
Rises n [] = Unit {0}
Rises n (m ∷ ms) = (n < m) × Rises m ms

abbrev pub Rise : List ℕ → Type 0
Rise [] = Unit {0}
Rise (n ∷ ns) = Rises n ns

abbrev last : ℕ → List ℕ → ℕ
last n [] = n
last n (m ∷ ms) = last m ms

-- each number follows the one before it
abbrev pub has_no_gap : Option ℕ → List ℕ → Bool
has_no_gap b [] = true
has_no_gap b (n ∷ ns) = follows b n && has_no_gap (Some n) ns

reaches : (n : ℕ) (ms : List ℕ) → Rises n ms → n + length ms ≤ last n ms
reaches n [] r = omega arith
reaches n (m ∷ ms) r = let t = reaches m ms r.1 in let l : n < m = r.0 in omega arith

last_is : (n : ℕ) (ms : List ℕ) → Rises n ms → IsGreatest (λ i. IsAmong i (n ∷ ms)) (last n ms)
last_is n [] r = highest n []
last_is n (m ∷ ms) r = further (last_is m ms r.1)
  where
    within : IsGreatest (λ i. IsAmong i (m ∷ ms)) (last m ms) → (i : ℕ) → IsAmong i (n ∷ m ∷ ms) → i ≤ last m ms
    within g i (inl e) = let h = g.1 m (inl refl) in let l : n < m = r.0 in omega arith
    within g i (inr k) = g.1 i k

    further : IsGreatest (λ i. IsAmong i (m ∷ ms)) (last m ms) → IsGreatest (λ i. IsAmong i (n ∷ m ∷ ms)) (last m ms)
    further g = (inr g.0, within g)

none_below : (n : ℕ) (ms : List ℕ) → Rises n ms → (i : ℕ) → IsAmong i (n ∷ ms) → n ≤ i
none_below n ms r i (inl e) = omega arith
none_below n [] r i (inr f) = absurd f
none_below n (m ∷ ms) r i (inr k) = let h = none_below m ms r.1 i k in let l : n < m = r.0 in omega arith

first_is : (n : ℕ) (ms : List ℕ) → Rises n ms → IsLeast (λ i. IsAmong i (n ∷ ms)) n
first_is n ms r = (inl refl, none_below n ms r)

counted : (n : ℕ) (ms : List ℕ) → Rises n ms → has_no_gap (Some n) ms ≡ (last n ms == n + length ms)
counted n [] r = sym (eq-eqb n (n + 0) (omega arith))
counted n (m ∷ ms) r = by_test (n == m - 1) refl (counted m ms r.1) (reaches m ms r.1)
  where
    by_test : (b : Bool) → (n == m - 1) ≡ b → has_no_gap (Some m) ms ≡ (last m ms == m + length ms)
        → m + length ms ≤ last m ms → (b && has_no_gap (Some m) ms) ≡ (last m ms == n + length (m ∷ ms))
    by_test true e c t =
        let s = eqb-true n (m - 1) e in
        let l : n < m = r.0 in
        c ∙ same_test (last m ms) (m + length ms) (last m ms) (n + length (m ∷ ms)) (λ q. omega arith)
        (λ q. omega arith)
    by_test false e c t =
        let s = eqb-false n (m - 1) e in
        let l : n < m = r.0 in
        sym (ne_eqb (last m ms) (n + length (m ∷ ms)) (λ q. s (omega arith)))

-- the first of numbers that rise is the least
least_first : (n : ℕ) (ms : List ℕ) → Rises n ms → least (n ∷ ms) ≡ Some n
least_first n ms r =
    least_found (λ i. IsAmong i (n ∷ ms)) (n ∷ ms) (each_among_own (n ∷ ms)) (λ i k. k) n (first_is n ms r)

-- of numbers that rise, each follows the one before it exactly where the greatest less the least, and 1, is their
-- number
pub gaps_counted : (ns : List ℕ) → Rise ns
    → has_no_gap None ns ≡ none_or (greatest ns) (λ g. none_or (least ns) (λ l. g - l + 1 == length ns))
gaps_counted [] r = refl
gaps_counted (n ∷ ms) r =
    let above = reaches n ms r in
    counted n ms r
    ∙ same_test (last n ms) (n + length ms) (last n ms - n + 1) (length (n ∷ ms)) (λ q. omega arith) (λ q. omega arith)
    ∙ sym (λ i. none_or (most i) (λ g. none_or (least_first n ms r i) (λ l. g - l + 1 == length (n ∷ ms))))
  where
    most : greatest (n ∷ ms) ≡ Some (last n ms)
    most = greatest_found (λ i. IsAmong i (n ∷ ms)) (n ∷ ms) (each_among_own (n ∷ ms)) (λ i k. k) (last n ms)
        (last_is n ms r)

-- the first number of those that are left, where it does not follow, and where it does
pub stops : (b : Option ℕ) (n : ℕ) (ns : List ℕ) → follows b n ≡ false → false ≡ has_no_gap b (n ∷ ns)
stops b n ns e = sym (ap (λ t. t && has_no_gap (Some n) ns) e)

pub goes_on : (b : Option ℕ) (n : ℕ) (ns : List ℕ) → follows b n ≡ true → has_no_gap (Some n) ns ≡ has_no_gap b (n ∷ ns)
goes_on b n ns e = sym (ap (λ t. t && has_no_gap (Some n) ns) e)

-- the second condition, by the number before the next one
module _ (next : ℕ) (low : 1 ≤ next) where
  before : (n : ℕ) → (n == next - 1) ≡ (next == n + 1)
  before n = same_test n (next - 1) next (n + 1) (λ e. omega arith) (λ e. omega arith)

  none_before : (a : Option ℕ) → none_or a (λ n. n == next - 1) ≡ none_or a (λ n. next == n + 1)
  none_before None = refl
  none_before (Some n) = before n
