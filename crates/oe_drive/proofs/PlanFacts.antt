-- One more errand of a terminal, and one more terminal.
use Rattle.std.proofs.Common.{◌≡◌, ℕ, suc, ◌+◌, ◌-◌, List, [], ◌∷◌, ◌++◌, sym, ap, subst, ◌∙◌, arith}
use Rattle.rand_pcg.specs.Lcg.{Lcg}
use Rattle.oe_rows.specs.declared.scales.Scale.{Scale}
use Rattle.oe_requests.specs.declared.requests.Errand.{Errand}
use Rattle.oe_terms.specs.Errands.{errand_of, words_after, request_of}
use Rattle.oe_terms.proofs.ChainFacts.{request_drawn}
use Rattle.oe_drive.specs.Plans.{errands_of}

pub errands_more : (s : Scale) (seed t n m : ℕ) (g g1 : Lcg) (e : Errand) (before after : List Errand)
    → before ≡ errands_of s seed t n → g ≡ words_after s seed t n → m ≡ n + 1
    → (e, g1) ≡ errand_of s t m g → after ≡ before ++ e ∷ [] → after ≡ errands_of s seed t (n + 1)
errands_more s seed t n m g g1 e before after done at number drawn pushed =
    let next : suc n ≡ n + 1 = omega arith in
    let same : e ≡ request_of s seed t m = request_drawn s seed t m n g g1 e at (omega (arith, number)) drawn in
    let as_next : m ≡ suc n = number ∙ sym next in
    subst (λ (k : ℕ). after ≡ errands_of s seed t k) next
    (pushed ∙ (ap (λ (es : List Errand). es ++ e ∷ []) done ∙ ap (λ (x : Errand). errands_of s seed t n ++ x ∷ [])
    (same ∙ ap (request_of s seed t) as_next)))
