-- Entries of a list, as a function of their numbers.
use Rattle.std.proofs.Common.{◌≡◌, ◌≢◌, ℕ, zero, suc, ◌<◌, inl, inr, List, [], ◌∷◌, Option, Some, None, length}
use Rattle.std.proofs.Common.{slice_get, slice_set, get_or, replicate, sym, ap, ◌∙◌, refl, arith}
use Rattle.std.specs.Prelude.{◌⊎◌}
use Rattle.std.proofs.lemmas.Bool.{cases_eq}
use mathlib.Core.Path.{fun_ext}
use Rattle.oe_theory.specs.World.{set}
use Rattle.oe_theory.proofs.Sets.{set_same, set_other}

get_or_same : {X : Type 0} (xs : List X) (i : ℕ) (x d : X) → i < length xs → get_or (slice_set xs i x) i d ≡ x
get_or_same [] i x d h = absurd (omega arith)
get_or_same (y ∷ ys) zero x d h = refl
get_or_same (y ∷ ys) (suc i) x d h = get_or_same ys i x d (omega arith)

get_or_other : {X : Type 0} (xs : List X) (i k : ℕ) (x d : X) → k ≢ i → get_or (slice_set xs i x) k d ≡ get_or xs k d
get_or_other [] i k x d h = refl
get_or_other (y ∷ ys) zero zero x d h = absurd (h refl)
get_or_other (y ∷ ys) zero (suc k) x d h = refl
get_or_other (y ∷ ys) (suc i) zero x d h = refl
get_or_other (y ∷ ys) (suc i) (suc k) x d h = get_or_other ys i k x d (λ e. h (ap suc e))

-- a slot of a list that is set is one of the function that it stands for
pub slot_set : {X : Type 0} (xs : List X) (t : ℕ) (x d : X) → t < length xs
    → (λ (i : ℕ). get_or (slice_set xs t x) i d) ≡ set t x (λ i. get_or xs i d)
slot_set xs t x d h = fun_ext (λ i. go i (cases_eq i t))
  where
    go : (i : ℕ) → (i ≡ t) ⊎ (i ≢ t) → get_or (slice_set xs t x) i d ≡ set t x (λ i. get_or xs i d) i
    go i (inl e) =
        ap (λ k. get_or (slice_set xs t x) k d) e
        ∙ (get_or_same xs t x d h ∙ sym (set_same t x (λ i. get_or xs i d) i e))
    go i (inr n) = get_or_other xs t i x d n ∙ sym (set_other t x (λ i. get_or xs i d) i n)

pub get_slot : {X : Type 0} (xs : List X) (t : ℕ) (x d : X) → slice_get xs t ≡ Some x → get_or xs t d ≡ x
get_slot [] t x d e = cc
get_slot (y ∷ ys) zero x d e = cc
get_slot (y ∷ ys) (suc t) x d e = get_slot ys t x d e

pub get_set_same : {X : Type 0} (xs : List X) (i : ℕ) (x : X) → i < length xs → slice_get (slice_set xs i x) i ≡ Some x
get_set_same [] i x h = absurd (omega arith)
get_set_same (y ∷ ys) zero x h = refl
get_set_same (y ∷ ys) (suc i) x h = get_set_same ys i x (omega arith)

pub slice_of : {X : Type 0} (xs : List X) (t : ℕ) (x d : X) → t < length xs → get_or xs t d ≡ x
    → slice_get xs t ≡ Some x
slice_of [] t x d h e = absurd (omega arith)
slice_of (y ∷ ys) zero x d h e = ap Some e
slice_of (y ∷ ys) (suc t) x d h e = slice_of ys t x d (omega arith) e

-- what stands behind a loan of a slot
pub lent_slot : {X : Type 0} (xs : List (Option X)) (i t : ℕ) (x y : Option X) → i ≡ t → t < length xs
    → x ≡ get_or xs i x → x ≡ y → get_or xs t None ≡ y
lent_slot xs i t x y e h g f = get_slot xs t x None
    (slice_of xs t x x h (ap (λ (k : ℕ). get_or xs k x) (sym e) ∙ sym g)) ∙ f

-- a slot that is set to what stands there
pub kept_slot : {X : Type 0} (xs : List X) (t : ℕ) (d : X) → xs ≡ slice_set xs t (get_or xs t d)
kept_slot [] t d = refl
kept_slot (y ∷ ys) zero d = refl
kept_slot (y ∷ ys) (suc t) d = ap (λ zs. y ∷ zs) (kept_slot ys t d)

pub set_idle_slot : {X : Type 0} (xs : List X) (t : ℕ) (x : X) → slice_get xs t ≡ Some x → slice_set xs t x ≡ xs
set_idle_slot [] t x e = refl
set_idle_slot (y ∷ ys) zero x e = ap (λ z. z ∷ ys) (cc)
set_idle_slot (y ∷ ys) (suc t) x e = ap (λ z. y ∷ z) (set_idle_slot ys t x e)

pub all_same : {X : Type 0} (n t : ℕ) (x : X) → get_or (replicate n x) t x ≡ x
all_same zero t x = refl
all_same (suc n) zero x = refl
all_same (suc n) (suc t) x = all_same n t x

-- of two values that are set in a slot the second stays
pub set_twice : {X : Type 0} (xs : List X) (t : ℕ) (x y : X) → slice_set (slice_set xs t x) t y ≡ slice_set xs t y
set_twice [] t x y = refl
set_twice (z ∷ zs) zero x y = refl
set_twice (z ∷ zs) (suc t) x y = ap (λ us. z ∷ us) (set_twice zs t x y)
