-- Sums g 0 + .. + g (n - 1), and sums over a finite map whose rows stand at listed keys.
use Rattle.std.proofs.Common.{◌≡◌, ℕ, zero, suc, ◌+◌, ◌*◌, ◌<◌, min, refl, sym, ◌∙◌, ap, Bool, true, false, cond, Some}
use Rattle.std.proofs.Common.{None, inl, inr, nat_lt, arith}
use Rattle.std.specs.Prelude.{◌⊎◌}
use Rattle.std.specs.declared.cmp.Ordering.{Ordering}
use Rattle.std.specs.Cmp.{IsTotalOrder}
use Rattle.std.specs.Ordering.{eq_by_cmp}
use Rattle.std.proofs.lemmas.Bool.{ltb-true, ltb-false, cases_order, false_from_ne_true}
use Rattle.std.specs.FinMap.{FinMap, IsAntisymmetric, get, remove, get-remove}
use Rattle.oe_model.specs.Maps.{sum_of}
use Rattle.oe_model.proofs.MapFacts.{is_same, is_self}
use Rattle.oe_model.proofs.SumFacts.{number_at, sum-remove, sum-none}

abbrev pub total : ℕ → (ℕ → ℕ) → ℕ
total zero g = 0
total (suc n) g = total n g + g n

pub total-same : (n : ℕ) (g h : ℕ → ℕ) → ((i : ℕ) → i < n → g i ≡ h i) → total n g ≡ total n h
total-same zero g h e = refl
total-same (suc n) g h e = let rest = total-same n g h (λ i l. e i (omega arith)) in let last = e n (omega arith) in
    omega arith

pub total-constant : (n c : ℕ) → total n (λ i. c) ≡ n * c
total-constant zero c = omega arith
total-constant (suc n) c = let rest = total-constant n c in omega arith

pub total-add : (m n : ℕ) (g : ℕ → ℕ) → total (m + n) g ≡ total m g + total n (λ i. g (m + i))
total-add m zero g = let e : m + 0 ≡ m = omega arith in rw e (omega arith)
total-add m (suc n) g =
    let rest = total-add m n g in
    let e : m + suc n ≡ suc (m + n) = omega arith in
    rw e (omega arith)

-- how many of the first n numbers lie below m
pub total-below : (n m : ℕ) → total n (λ i. cond (nat_lt i m) 1 0) ≡ min n m
total-below zero m = omega arith
total-below (suc n) m = by_test (nat_lt n m) refl (total-below n m)
  where
    by_test : (b : Bool) → nat_lt n m ≡ b → total n (λ i. cond (nat_lt i m) 1 0) ≡ min n m
        → total n (λ i. cond (nat_lt i m) 1 0) + cond b 1 0 ≡ min (suc n) m
    by_test true t e = let l = ltb-true n m t in omega arith
    by_test false t e = let l = ltb-false n m t in omega arith

module _ {K X : Type 0} {R : K → K → Ordering} (o : IsTotalOrder R) (exact : IsAntisymmetric R) (f : K → X → ℕ) where
  -- each row that counts stands at one of the listed keys
  pub sum-listed : (n : ℕ) (key : ℕ → K) → ((i j : ℕ) → i < j → j < n → key i ≡ key j → ⊥) → (m : FinMap R X)
      → ((k : K) (x : X) → get m k ≡ Some x → (f k x ≡ 0) ⊎ ((i : ℕ) × (i < n) × (key i ≡ k)))
      → sum_of f m ≡ total n (λ i. number_at f (key i) (get m (key i)))
  sum-listed zero key apart m listed = sum-none o exact f m (λ k x e. zero_of k x (listed k x e))
    where
      zero_of : (k : K) (x : X) → (f k x ≡ 0) ⊎ ((i : ℕ) × (i < 0) × (key i ≡ k)) → f k x ≡ 0
      zero_of k x (inl e) = e
      zero_of k x (inr w) = let l : w.0 < 0 = w.1 in absurd (let no : ⊥ = omega arith in no)
  sum-listed (suc n) key apart m listed =
      let rest = sum-listed n key (λ i j l h. apart i j l (omega arith)) (remove m (key n)) listed_rest in
      let whole = sum-remove o exact f m (key n) in
      let others = total-same n (λ i. number_at f (key i) (get (remove m (key n)) (key i)))
      (λ i. number_at f (key i) (get m (key i))) (λ i l. ap (number_at f (key i)) (unmoved i l)) in
      omega arith
    where
      unmoved : (i : ℕ) → i < n → get (remove m (key n)) (key i) ≡ get m (key i)
      unmoved i l =
          get-remove o m (key n) (key i)
          ∙ ap (λ b. cond b None (get m (key i)))
          (false_from_ne_true _ (λ t. apart i n l (omega arith) (is_same o exact (key i) (key n) t)))

      of_listed : (k : K) (x : X) → eq_by_cmp R k (key n) ≡ false → (f k x ≡ 0) ⊎ ((i : ℕ) × (i < suc n) × (key i ≡ k))
          → (f k x ≡ 0) ⊎ ((i : ℕ) × (i < n) × (key i ≡ k))
      of_listed k x t (inl e) = inl e
      of_listed k x t (inr w) = by_order (cases_order w.0 n)
        where
          by_order : (w.0 ≡ n) ⊎ ((w.0 < n) ⊎ (n < w.0)) → (f k x ≡ 0) ⊎ ((i : ℕ) × (i < n) × (key i ≡ k))
          by_order (inl e) =
              let same : k ≡ key n = sym w.2 ∙ ap key e in
              let z : false ≡ true = sym t ∙ ap (λ q. eq_by_cmp R q (key n)) same ∙ is_self o exact (key n) in
              let no : ⊥ = cc in absurd no
          by_order (inr (inl l)) = inr (w.0, l, w.2)
          by_order (inr (inr l)) = let below : w.0 < suc n = w.1 in absurd (let no : ⊥ = omega arith in no)

      listed_rest : (k : K) (x : X) → get (remove m (key n)) k ≡ Some x
          → (f k x ≡ 0) ⊎ ((i : ℕ) × (i < n) × (key i ≡ k))
      listed_rest k x e = by_test (eq_by_cmp R k (key n)) refl (sym (get-remove o m (key n) k) ∙ e)
        where
          by_test : (b : Bool) → eq_by_cmp R k (key n) ≡ b → cond b None (get m k) ≡ Some x
              → (f k x ≡ 0) ⊎ ((i : ℕ) × (i < n) × (key i ≡ k))
          by_test true t e = let no : ⊥ = cc in absurd no
          by_test false t e = of_listed k x t (listed k x e)
