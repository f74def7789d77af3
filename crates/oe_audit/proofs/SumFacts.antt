-- Sums that are taken away from a number, row after row.
use Rattle.std.proofs.Common.{◌≡◌, ℕ, zero, suc, ◌+◌, ◌<◌, ◌≤◌, ◌↔◌, refl, sym, ◌∙◌, ap, Bool, true, false, not, List}
use Rattle.std.proofs.Common.{[], ◌∷◌, arith}
use Rattle.std.specs.Prelude.{◌==◌, IsTrue, sum_by}
use Rattle.std.proofs.lemmas.Bool.{eq-eqb, eqb-true, ne_eqb}
use Rattle.std.proofs.lemmas.List.Sums.{sum_by-cons}

-- two tests of numbers that hold together
pub same_test : (a b c d : ℕ) → (a ≡ b → c ≡ d) → (c ≡ d → a ≡ b) → (a == b) ≡ (c == d)
same_test a b c d there back = by_test (c == d) refl
  where
    by_test : (t : Bool) → (c == d) ≡ t → (a == b) ≡ t
    by_test true e = eq-eqb a b (back (eqb-true c d e))
    by_test false e = ne_eqb a b (λ s. let no : true ≡ false = sym (eq-eqb c d (there s)) ∙ e in
        absurd (let z : ⊥ = cc in z))

module _ {A : Type 0} (f : A → ℕ) where
  -- nothing is left to take
  pub all_taken : (rest : ℕ) (all : List A) → all ≡ [] → (rest == 0) ≡ (rest == sum_by f all)
  all_taken rest all none = ap (λ xs. rest == sum_by f xs) (sym none)

  pub taken_off : (n m : ℕ) (x : A) (xs all : List A) → all ≡ x ∷ xs → m + f x ≡ n
      → (sum_by f xs == m) ≡ (sum_by f all == n)
  taken_off n m x xs all split r =
      let s = ap (sum_by f) split ∙ sum_by-cons f x xs in
      same_test (sum_by f xs) m (sum_by f all) n (λ e. omega arith) (λ e. omega arith)

-- none is left
pub none_left : (b : Bool) (n : ℕ) → IsTrue b ↔ (1 ≤ n) → not b ≡ (0 == n)
none_left true zero t = let h : 1 ≤ 0 = t.0 refl in absurd (let z : ⊥ = omega arith in z)
none_left false zero t = refl
none_left true (suc n) t = sym (ne_eqb 0 (suc n) (λ e. omega arith))
none_left false (suc n) t = let e : false ≡ true = t.1 (omega arith) in let z : ⊥ = cc in absurd z

-- rows are as many as were asked for: fewer are there, or some are left, or none
pub few_lines : (b : Bool) (count n total : ℕ) → IsTrue b ↔ (count ≤ n) → b ≡ false → total ≡ n
    → false ≡ (count == total)
few_lines true count n total enough e is = let no : ⊥ = cc in absurd no
few_lines false count n total enough e is =
    sym (ne_eqb count total (λ s. let t : false ≡ true = enough.1 (omega arith) in let no : ⊥ = cc in no))

pub all_lines : (b m : Bool) (count n rest total : ℕ) → (IsTrue b → rest + count ≡ n) → b ≡ true → IsTrue m ↔ (1 ≤ rest)
    → total ≡ n → not m ≡ (count == total)
all_lines true m count n rest total taken e more is =
    let t = taken refl in
    none_left m rest more ∙ same_test 0 rest count total (λ s. omega arith) (λ s. omega arith)
all_lines false m count n rest total taken e more is = let no : ⊥ = cc in absurd no
