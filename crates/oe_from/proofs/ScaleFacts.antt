-- Last names that some customer has, and numbers from one on, one more at a time.
use Rattle.std.proofs.Common.{◌≡◌, ℕ, ◌+◌, ◌≤◌, ◌<◌, Option, Some, None, sym, subst, ◌∙◌, inl, inr, arith}
use Rattle.std.specs.Prelude.{◌⊎◌, ◌≢◌, IsSome, IfSome, MatchOption}
use Rattle.std.proofs.lemmas.Bool.{cases_eq}
use Rattle.oe_rows.specs.declared.keys.DistrictKey.{DistrictKey}
use Rattle.oe_model.specs.Choice.{namesakes, middle}
use Rattle.oe_model.specs.Population.{last_name}
use Rattle.oe_model.specs.Rows.{Rows}
use Rattle.oe_model.proofs.MiddleFacts.{name_is_middle}
use Rattle.oe_from.specs.Scales.{has_name, HasNames}

module _ (P : ℕ → Type 0) where
  pub one_more : (n : ℕ) → ((k : ℕ) → 1 ≤ k → k ≤ n → P k) → P (n + 1) → (k : ℕ) → 1 ≤ k → k ≤ n + 1 → P k
  one_more n all next k low high = by (cases_eq k (n + 1))
    where
      by : (k ≡ n + 1) ⊎ (k ≢ n + 1) → P k
      by (inl same) = subst P (sym same) next
      by (inr other) = all k low (let z : k ≤ n = omega (arith, high, other) in z)

module _ (r : Rows) (d : DistrictKey) (k : ℕ) where
  -- a customer is found by the name, or none
  pub is_named : (o : Option ℕ) → o ≡ middle (namesakes d (last_name k) r.customers) → IsSome o → has_name r d k
  is_named None e some = absurd (let z : ⊥ = cc in z)
  is_named (Some c) e some =
      let h = name_is_middle.some r.customers d (last_name k) c (sym e) in (c, h.0, h.1, h.2)

  pub is_nobodys : (o : Option ℕ) → o ≡ middle (namesakes d (last_name k) r.customers) → o ≡ None → has_name r d k → ⊥
  is_nobodys o e none (c, x, at, own) = name_is_middle.none r.customers d (last_name k) c x (sym e ∙ none) at own

  -- one name more
  pub one_name : has_name r d k → ((n : ℕ) → n < k → has_name r d n) → (n : ℕ) → n < k + 1 → has_name r d n
  one_name own all n high = by (cases_eq n k)
    where
      by : (n ≡ k) ⊎ (n ≢ k) → has_name r d n
      by (inl same) = subst (has_name r d) (sym same) own
      by (inr other) = all n (let z : n < k = omega (arith, high, other) in z)

  -- the number of a name that nobody has
  pub nobodys : (customers : ℕ) (o : Option ℕ) → IsSome o → IfSome o (λ n. n ≡ k) → k < customers → k < 1_000
      → (has_name r d k → ⊥)
      → MatchOption o (HasNames r d customers) (λ n. (n < customers) × (n < 1_000) × (has_name r d n → ⊥))
  nobodys customers None some is few small nobody = absurd (let z : ⊥ = cc in z)
  nobodys customers (Some n) some is few small nobody = (
    subst (λ m. m < customers) (sym is) few,
    subst (λ m. m < 1_000) (sym is) small,
    λ h. nobody (subst (has_name r d) is h),
  )
