-- The numbers of a district's ORDER or NEW-ORDER rows, when one row is put or removed.
use Rattle.std.proofs.Common.{◌≡◌, ℕ, ◌≤◌, sym, ◌∙◌, ap, subst, true, false, Option, inl, inr, arith}
use Rattle.std.specs.Prelude.{◌⊎◌, IsSome}
use Rattle.std.specs.declared.cmp.Ordering.{Ordering}
use Rattle.std.specs.Cmp.{IsTotalOrder}
use Rattle.std.specs.Ordering.{eq_by_cmp}
use Rattle.std.specs.FinMap.{FinMap, IsAntisymmetric, get, insert}
use Rattle.oe_rows.specs.Key.{district_cmp}
use Rattle.oe_rows.specs.declared.keys.DistrictKey.{DistrictKey}
use Rattle.oe_rows.proofs.KeyFacts.{district_total, exact_district}
use Rattle.oe_model.specs.Conditions.{IsGreatest, IsAfterGreatest}
use Rattle.oe_model.proofs.MapFacts.{is_self}
use Rattle.oe_model.proofs.PresenceFacts.{key_cases, get_other, present_own}

-- keys that are a district and a number
module _ {K : Type 0} {R : K → K → Ordering} (o : IsTotalOrder R) (exact : IsAntisymmetric R) (at : DistrictKey → ℕ → K)
    (of : K → DistrictKey) (number : K → ℕ)
    (of_at : (h : DistrictKey) (n : ℕ) → of (at h n) ≡ h)
    (number_at : (h : DistrictKey) (n : ℕ) → number (at h n) ≡ n) where
  pub same_number : (h : DistrictKey) (n i : ℕ) → at h n ≡ at h i → n ≡ i
  same_number h n i s = sym (number_at h n) ∙ ap number s ∙ number_at h i

  -- keys of two districts differ
  pub other_key : (g h : DistrictKey) → eq_by_cmp district_cmp g h ≡ false → (n i : ℕ)
      → eq_by_cmp R (at g n) (at h i) ≡ false
  other_key g h t n i = go (key_cases o exact (at g n) (at h i))
    where
      go : (at g n ≡ at h i) ⊎ (eq_by_cmp R (at g n) (at h i) ≡ false) → eq_by_cmp R (at g n) (at h i) ≡ false
      go (inl s) =
          let same : g ≡ h = sym (of_at g n) ∙ ap of s ∙ of_at h i in
          let no : true ≡ false = sym (is_self district_total exact_district g) ∙ ap (eq_by_cmp district_cmp g) same
          ∙ t in
          absurd (let z : ⊥ = cc in z)
      go (inr e) = e

  module _ {X : Type 0} (h : DistrictKey) (k : ℕ) (m : FinMap R X) (v : X) where
    -- one more row, of the district h and the number k
    pub own_number : (n : ℕ) → IsSome (get (insert m (at h k) v) (at h n)) → (n ≡ k) ⊎ IsSome (get m (at h n))
    own_number n p = go (key_cases o exact (at h n) (at h k))
      where
        go : (at h n ≡ at h k) ⊎ (eq_by_cmp R (at h n) (at h k) ≡ false) → (n ≡ k) ⊎ IsSome (get m (at h n))
        go (inl s) = inl (same_number h n k s)
        go (inr t) = inr (subst (λ (u : Option X). IsSome u) (get_other o exact m (at h k) v (at h n) t) p)

    pub other_number : (g : DistrictKey) → eq_by_cmp district_cmp g h ≡ false → (n : ℕ)
        → get (insert m (at h k) v) (at g n) ≡ get m (at g n)
    other_number g t n = get_other o exact m (at h k) v (at g n) (other_key g h t n k)

    pub greatest_other : (g : DistrictKey) → eq_by_cmp district_cmp g h ≡ false → (n : ℕ)
        → IsAfterGreatest (λ i. IsSome (get m (at g i))) n
        → IsAfterGreatest (λ i. IsSome (get (insert m (at h k) v) (at g i))) n
    greatest_other g t n p = (
      p.0,
      p.1,
      (
        subst (λ (u : Option X). IsSome u) (sym (other_number g t p.0)) p.2.0,
        λ i s. p.2.1 i
            (subst (λ (u : Option X). IsSome u) (other_number g t i) s),
      ),
    )

    pub greatest_own : ((n : ℕ) → IsSome (get m (at h n)) → n ≤ k)
        → IsGreatest (λ i. IsSome (get (insert m (at h k) v) (at h i))) k
    greatest_own below = (present_own o exact m (at h k) v, λ i s. go i (own_number i s))
      where
        go : (i : ℕ) → (i ≡ k) ⊎ IsSome (get m (at h i)) → i ≤ k
        go i (inl e) = omega arith
        go i (inr s) = below i s
