-- Sums that grow by what each row of a walk adds, as far as they can: a walk leads from the sums so far to its target.
use Rattle.std.proofs.Common.{◌≡◌, ℕ, ◌+◌, ◌≤◌, min, sym, ◌∙◌, ap, List, [], ◌∷◌, arith}
use Rattle.std.specs.Prelude.{sum_by}
use Rattle.std.proofs.lemmas.List.Sums.{sum_by-cons}
use Rattle.oe_audit.specs.Ledgers.{most}

-- a sum that is capped, then grows
capped : (a b r t m : ℕ) → min (a + (b + r)) m ≡ min t m → min (min (a + b) m + r) m ≡ min t m
capped a b r t m e = omega arith

-- the sum of each key in its range stands at a place of its own
module _ {E K : Type 0} (InRange : K → Type 0) (sum_for : List ℕ → K → ℕ) (adds : E → K → ℕ) (target : K → ℕ) where
  -- what the rest of a walk adds leads from these sums to their target
  pub record Leads (sums : List ℕ) (es : List E) : Type 0 where
    pub fits : (k : K) → InRange k → sum_for sums k ≤ most
    pub leads : (k : K) → InRange k → min (sum_for sums k + sum_by (λ e. adds e k) es) most ≡ min (target k) most

  pub leads_first : (sums : List ℕ) (es : List E) → ((k : K) → InRange k → sum_for sums k ≡ 0)
      → ((k : K) → target k ≡ sum_by (λ e. adds e k) es) → Leads sums es
  leads_first sums es none is = record {
    fits = λ k i. let z = none k i in omega arith;
    leads = λ k i. let z = none k i in let t = is k in omega arith;
  }

  pub leads_on : (before after : List ℕ) (all es : List E) (e : E) → all ≡ e ∷ es → Leads before all
      → ((k : K) → InRange k → sum_for before k ≤ most
      → sum_for after k ≡ min (sum_for before k + adds e k) most)
      → Leads after es
  leads_on before after all es e split l grown = record {
    fits = λ k i. let g = grown k i (l.fits k i) in omega arith;
    leads = λ k i.
        let g = grown k i (l.fits k i) in
        let whole : min (sum_for before k + (adds e k + sum_by (λ e. adds e k) es)) most ≡ min (target k) most =
        ap (λ n. min (sum_for before k + n) most)
        (sym (ap (sum_by (λ e. adds e k)) split ∙ sum_by-cons (λ e. adds e k) e es)) ∙ l.leads k i in
        ap (λ n. min (n + sum_by (λ e. adds e k) es) most) g
        ∙ capped (sum_for before k) (adds e k) (sum_by (λ e. adds e k) es) (target k) most whole;
  }

  pub leads_last : (sums : List ℕ) (es : List E) → es ≡ [] → Leads sums es → (k : K) → InRange k
      → sum_for sums k ≡ min (target k) most
  leads_last sums es none l k i =
      let f = l.fits k i in
      let all : min (sum_for sums k + 0) most ≡ min (target k) most =
      ap (λ xs. min (sum_for sums k + sum_by (λ e. adds e k) xs) most) (sym none) ∙ l.leads k i in
      omega arith
