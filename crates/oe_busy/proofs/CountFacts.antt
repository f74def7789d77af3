-- Lists of counts.
use Rattle.std.proofs.Common.{◌≡◌, ℕ, zero, suc, ◌<◌, List, [], ◌∷◌, length, slice_set, get_or, refl, sym, ap}
use Rattle.std.proofs.Common.{◌∙◌, inl, inr, arith, replicate}
use Rattle.std.specs.Prelude.{◌⊎◌, ◌≢◌}
use Rattle.std.proofs.lemmas.Bool.{cases_eq}
use mathlib.Core.Path.{fun_ext}
use Rattle.oe_theory.specs.World.{set}
use Rattle.oe_theory.proofs.Sets.{set_same, set_other}
use Rattle.oe_busy.specs.Happenings.{counts_in}

put : (l : List ℕ) (t n : ℕ) → t < length l → counts_in (slice_set l t n) t ≡ n
put [] t n h = let no : ⊥ = omega (arith, h) in absurd no
put (x ∷ l) zero n h = refl
put (x ∷ l) (suc t) n h = put l t n (omega (arith, h))

still : (l : List ℕ) (t n u : ℕ) → u ≢ t → counts_in (slice_set l t n) u ≡ counts_in l u
still [] t n u other = refl
still (x ∷ l) zero n zero other = absurd (other refl)
still (x ∷ l) zero n (suc u) other = refl
still (x ∷ l) (suc t) n zero other = refl
still (x ∷ l) (suc t) n (suc u) other = still l t n u (λ e. other (ap suc e))

-- a count is another one
pub put_at : (l : List ℕ) (t n : ℕ) → t < length l → counts_in (slice_set l t n) ≡ set t n (counts_in l)
put_at l t n h = fun_ext (λ u. each u (cases_eq u t))
  where
    each : (u : ℕ) → (u ≡ t) ⊎ (u ≢ t) → counts_in (slice_set l t n) u ≡ set t n (counts_in l) u
    each u (inl same) = ap (λ z. counts_in (slice_set l t n) z) same
        ∙ (put l t n h ∙ sym (set_same t n (counts_in l) u same))
    each u (inr other) = still l t n u other ∙ sym (set_other t n (counts_in l) u other)

pub zeros : (k t : ℕ) → ◌≡◌ {A = ℕ} (get_or (replicate {A = ℕ} k zero) t zero) zero
zeros zero t = refl
zeros (suc k) zero = refl
zeros (suc k) (suc t) = zeros k t

pub none : (k : ℕ) → counts_in (replicate {A = ℕ} k zero) ≡ (λ t. zero)
none k = fun_ext (λ t. zeros k t)
