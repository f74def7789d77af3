-- Whose turn it is.
use Rattle.std.proofs.Common.{◌≡◌, ℕ, zero, suc, ◌+◌, ◌-◌, ◌<◌, List, [], ◌∷◌, length, slice_set, get_or, refl, sym, ap}
use Rattle.std.proofs.Common.{◌∙◌, inl, inr, arith, replicate, Option, None, Some}
use Rattle.std.specs.Prelude.{◌⊎◌, ◌≢◌, ◌==◌, if◌then◌else◌, Bool, true, false, option_map, unwrap_or}
use Rattle.std.proofs.lemmas.Bool.{cases_eq, cond-false, cond-true}
use mathlib.Core.Path.{fun_ext}
use Rattle.oe_theory.specs.World.{World, set}
use Rattle.oe_theory.proofs.Sets.{set_same, set_other}
use Rattle.oe_model.specs.System.{system}
use Rattle.oe_waits.specs.Waits.{last_terminal}
use Rattle.oe_terms.specs.declared.plans.Plan.{Plan}
use Rattle.oe_load.specs.Flats.{behind, first_behind}
use Rattle.oe_load.specs.Picks.{holders_of, holder_of, waits_end, first_after, none_named}

-- ---- whom answers have named

put : (l : List (Option ℕ)) (t : ℕ) (o : Option ℕ) → t < length l → holders_of (slice_set l t o) t ≡ o
put [] t o h = let no : ⊥ = omega (arith, h) in absurd no
put (x ∷ l) zero o h = refl
put (x ∷ l) (suc t) o h = put l t o (omega (arith, h))

still : (l : List (Option ℕ)) (t u : ℕ) (o : Option ℕ) → u ≢ t → holders_of (slice_set l t o) u ≡ holders_of l u
still [] t u o other = refl
still (x ∷ l) zero zero o other = absurd (other refl)
still (x ∷ l) zero (suc u) o other = refl
still (x ∷ l) (suc t) zero o other = refl
still (x ∷ l) (suc t) (suc u) o other = still l t u o (λ e. other (ap suc e))

pub noted : (l : List (Option ℕ)) (t : ℕ) (o : Option ℕ) → t < length l
    → holders_of (slice_set l t o) ≡ set t o (holders_of l)
noted l t o h = fun_ext (λ u. each u (cases_eq u t))
  where
    each : (u : ℕ) → (u ≡ t) ⊎ (u ≢ t) → holders_of (slice_set l t o) u ≡ set t o (holders_of l) u
    each u (inl same) = ap (λ z. holders_of (slice_set l t o) z) same
        ∙ (put l t o h ∙ sym (set_same t o (holders_of l) u same))
    each u (inr other) = still l t u o other ∙ sym (set_other t o (holders_of l) u other)

nobody : (k t : ℕ) → ◌≡◌ {A = Option ℕ} (get_or (replicate {A = Option ℕ} k None) t None) None
nobody zero t = refl
nobody (suc k) zero = refl
nobody (suc k) (suc t) = nobody k t

pub nobody_is : (k : ℕ) → holders_of (replicate {A = Option ℕ} k None) ≡ none_named
nobody_is k = fun_ext (λ t. nobody k t)

-- ---- where waits lead

module _ (w : World system) (named : ℕ → Option ℕ) (t n u : ℕ) where
  abbrev goes : Option ℕ → ℕ
  goes o = unwrap_or (option_map (λ v. if v == t then v else waits_end w named t n v) o) u

  pub ends : holder_of w named u ≡ None → waits_end w named t (suc n) u ≡ u
  ends e = ap goes e

  pub comes_back : (v : ℕ) → holder_of w named u ≡ Some v → (v == t) ≡ true → waits_end w named t (suc n) u ≡ v
  comes_back v e same = ap goes e ∙ cond-true (v == t) v (waits_end w named t n v) same

  pub goes_on : (v : ℕ) → holder_of w named u ≡ Some v → (v == t) ≡ false
      → waits_end w named t (suc n) u ≡ waits_end w named t n v
  goes_on v e other = ap goes e ∙ cond-false (v == t) v (waits_end w named t n v) other

-- ---- the first number that passes a test

pub looks_after : (f : ℕ → Bool) (before n m : ℕ) → n ≡ suc m → f (suc before) ≡ false
    → first_after f (before + 1) m ≡ first_after f before n
looks_after f before n m count none =
    let next : before + 1 ≡ suc before = omega arith in
    ap (λ (k : ℕ). first_after f k m) next
    ∙ (sym (cond-false (f (suc before)) (Some (suc before)) (first_after f (suc before) m) none)
    ∙ ap (λ (k : ℕ). first_after f before k) (sym count))

pub found_after : (f : ℕ → Bool) (before n m : ℕ) → n ≡ suc m → f (suc before) ≡ true
    → first_after f before n ≡ Some (suc before)
found_after f before n m count found =
    ap (λ (k : ℕ). first_after f before k) count
    ∙ cond-true (f (suc before)) (Some (suc before)) (first_after f (suc before) m) found

-- there are 64 terminals
pub all_are : 64 ≡ last_terminal
unfolding last_terminal
all_are = refl

-- ---- the first terminal behind one that passes a test

pub found_behind : (p : Plan) (f : ℕ → Bool) (t before n m : ℕ) → n ≡ suc m → f (behind p t before) ≡ true
    → first_behind p f t before n ≡ Some (behind p t before)
found_behind p f t before n m count found =
    ap (λ (k : ℕ). first_behind p f t before k) count
    ∙ cond-true (f (behind p t before)) (Some (behind p t before)) (first_behind p f t (suc before) m) found
