-- A list of all keys at which something is wrong is empty exactly where nothing is.
use Rattle.std.proofs.Common.{◌≡◌, sym, ◌∙◌, ap, Bool, cond, List, [], ◌∷◌, Option, Some, None}
use Rattle.std.specs.Prelude.{◌↔◌}
use Rattle.std.specs.Map.{lookup}
use Rattle.std.specs.Cmp.{IsEquivalence}
use Rattle.std.specs.declared.cmp.Ordering.{Ordering}
use Rattle.oe_tally.specs.Walks.{AreAll}
use Rattle.oe_checks.specs.declared.figures.Apart.{Apart}
use Rattle.oe_fact_laws.specs.FactLaws.{FindsNothing}

module _ {K : Type 0} {cmp : K → K → Ordering} {same : K → K → Bool} (equal : IsEquivalence same)
    (check : K → Option Apart) where
  pub empty_tells : (found : List (K × Apart)) → AreAll cmp same check found → (found ≡ []) ↔ FindsNothing check
  empty_tells found all = (
    λ e k. sym (all.exact k) ∙ ap (lookup (λ x. same x k)) e,
    λ h. go found all.exact h,
  )
    where
      go : (es : List (K × Apart)) → ((k : K) → lookup (λ x. same x k) es ≡ check k) → FindsNothing check → es ≡ []
      go [] exact h = Rattle.std.proofs.Common.refl
      go (e ∷ es) exact h =
          let first : lookup (λ x. same x e.0) (e ∷ es) ≡ Some e.1 =
          ap (λ b. cond b (Some e.1) (lookup (λ x. same x e.0) es)) (equal.refl e.0) in
          let none : Some e.1 ≡ None = sym first ∙ exact e.0 ∙ h e.0 in
          let no : ⊥ = cc in absurd no
