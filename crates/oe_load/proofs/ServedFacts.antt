-- Counts by terminal.
use Rattle.std.proofs.Common.{◌≡◌, ℕ, zero, suc, ◌<◌, List, [], ◌∷◌, length, slice_set, refl, sym, ap}
use Rattle.std.proofs.Common.{◌∙◌, inl, inr, arith, replicate}
use Rattle.std.specs.Prelude.{◌⊎◌, ◌≢◌}
use Rattle.std.proofs.lemmas.Bool.{cases_eq}
use mathlib.Core.Path.{fun_ext}
use Rattle.oe_theory.specs.World.{bump}
use Rattle.oe_theory.proofs.Sets.{set_same, set_other}
use Rattle.oe_load.specs.Loads.{none_served}
use Rattle.oe_load.specs.Turns.{counts_of}
use Rattle.oe_busy.proofs.CountFacts.{zeros}

put : (l : List ℕ) (t n : ℕ) → t < length l → counts_of (slice_set l t n) t ≡ n
put [] t n h = let no : ⊥ = omega (arith, h) in absurd no
put (x ∷ l) zero n h = refl
put (x ∷ l) (suc t) n h = put l t n (omega (arith, h))

still : (l : List ℕ) (t n u : ℕ) → u ≢ t → counts_of (slice_set l t n) u ≡ counts_of l u
still [] t n u other = refl
still (x ∷ l) zero n zero other = absurd (other refl)
still (x ∷ l) zero n (suc u) other = refl
still (x ∷ l) (suc t) n zero other = refl
still (x ∷ l) (suc t) n (suc u) other = still l t n u (λ e. other (ap suc e))

-- one more of a terminal
pub one_more : (l : List ℕ) (t n : ℕ) → t < length l → n ≡ suc (counts_of l t)
    → counts_of (slice_set l t n) ≡ bump t (counts_of l)
one_more l t n h e = fun_ext (λ u. each u (cases_eq u t))
  where
    each : (u : ℕ) → (u ≡ t) ⊎ (u ≢ t) → counts_of (slice_set l t n) u ≡ bump t (counts_of l) u
    each u (inl same) = ap (λ z. counts_of (slice_set l t n) z) same
        ∙ (put l t n h ∙ (e ∙ sym (set_same t (suc (counts_of l t)) (counts_of l) u same)))
    each u (inr other) = still l t n u other ∙ sym (set_other t (suc (counts_of l t)) (counts_of l) u other)

pub none : (k : ℕ) → counts_of (replicate {A = ℕ} k zero) ≡ none_served
none k = fun_ext (λ t. zeros k t)
