-- Sets of terminals as lists, and how the terminals that are reached are found.
use Rattle.std.proofs.Common.{◌≡◌, ℕ, zero, suc, ◌≤◌, ◌<◌, Bool, true, false, List, [], ◌∷◌, length, get_or}
use Rattle.std.proofs.Common.{slice_set, replicate, refl}
use Rattle.std.proofs.Common.{sym, ap, ◌∙◌, inl, inr, arith}
use Rattle.std.specs.Prelude.{◌⊎◌, ◌≢◌, ◌||◌}
use Rattle.std.proofs.lemmas.Bool.{cases_eq, or_cases, true≢false, or_left, or_right}
use Rattle.oe_waits.specs.Knots.{Chain, Reaches}
use Rattle.oe_waits.specs.Reaching.{is_in}
use Rattle.oe_waits.proofs.KnotFacts.{IsTo, reaches_on}

-- a terminal put into a set
pub put_in : (set : List Bool) (t : ℕ) → t < length set → is_in (slice_set set t true) t ≡ true
put_in [] t h = let no : ⊥ = omega (arith, h) in absurd no
put_in (b ∷ bs) zero h = refl
put_in (b ∷ bs) (suc t) h = put_in bs t (omega (arith, h))

pub still_in : (set : List Bool) (t u : ℕ) → u ≢ t → is_in (slice_set set t true) u ≡ is_in set u
still_in [] t u other = refl
still_in (b ∷ bs) zero zero other = absurd (other refl)
still_in (b ∷ bs) zero (suc u) other = refl
still_in (b ∷ bs) (suc t) zero other = refl
still_in (b ∷ bs) (suc t) (suc u) other = still_in bs t u (λ e. other (ap suc e))

pub none_in : (n u : ℕ) → get_or (replicate n false) u false ≡ false
none_in zero u = refl
none_in (suc n) zero = refl
none_in (suc n) (suc u) = none_in n u

-- how many of a set's places are empty
abbrev pub undone_count : List Bool → ℕ
undone_count [] = 0
undone_count (true ∷ bs) = undone_count bs
undone_count (false ∷ bs) = suc (undone_count bs)

pub one_less : (set : List Bool) (t : ℕ) → t < length set → is_in set t ≡ false
    → undone_count (slice_set set t true) < undone_count set
one_less [] t h e = let no : ⊥ = omega (arith, h) in absurd no
one_less (true ∷ bs) zero h e = absurd (true≢false e)
one_less (false ∷ bs) zero h e = omega arith
one_less (true ∷ bs) (suc t) h e = one_less bs t (omega (arith, h)) e
one_less (false ∷ bs) (suc t) h e = let less = one_less bs t (omega (arith, h)) e in omega (arith, less)

-- of the terminals 1 to 64, those to which t leads are found, and so are those to which a terminal leads that is done;
-- what is found is reached, and what is done was found
pub record IsClosing (r : ℕ → ℕ → Bool) (t : ℕ) (found done : List Bool) : Type 0 where
  pub first : (u : ℕ) → 1 ≤ u → u ≤ 64 → r t u ≡ true → is_in found u ≡ true
  pub next : (v u : ℕ) → 1 ≤ u → u ≤ 64 → is_in done v ≡ true → r v u ≡ true → is_in found u ≡ true
  pub sound : (u : ℕ) → 1 ≤ u → u ≤ 64 → is_in found u ≡ true → Reaches r t u

module _ (r : ℕ → ℕ → Bool) (t : ℕ) where
  pub closing_first : (found none done : List Bool) → ((u : ℕ) → is_in none u ≡ false)
      → ((u : ℕ) → is_in done u ≡ false)
      → ((u : ℕ) → 1 ≤ u → u ≤ 64 → is_in found u ≡ (is_in none u || r t u)) → IsClosing r t found done
  closing_first found none done empty nothing added = record {
    first = λ u low high e. added u low high ∙ or_right (is_in none u) (r t u) e;
    next = λ v u low high e _. absurd (true≢false (sym e ∙ nothing v));
    sound = λ u low high e. ([], here u (or_cases (is_in none u) (r t u) (sym (added u low high) ∙ e)));
  }
    where
      here : (u : ℕ) → (is_in none u ≡ true) ⊎ (r t u ≡ true) → r t u ≡ true
      here u (inl e) = absurd (true≢false (sym e ∙ empty u))
      here u (inr e) = e

  pub closing_next : (found done more : List Bool) (v : ℕ) → IsClosing r t found done → 1 ≤ v → v ≤ 64
      → is_in found v ≡ true → ((u : ℕ) → 1 ≤ u → u ≤ 64 → is_in more u ≡ (is_in found u || r v u))
      → IsClosing r t more (slice_set done v true)
  closing_next found done more v c low' high' e added = record {
    first = λ u low high h. added u low high ∙ or_left (is_in found u) (r v u) (c.first u low high h);
    next = λ x u low high h k. added u low high ∙ was x u low high h k (cases_eq x v);
    sound = λ u low high h. here u low high (or_cases (is_in found u) (r v u) (sym (added u low high) ∙ h));
  }
    where
      was : (x u : ℕ) → 1 ≤ u → u ≤ 64 → is_in (slice_set done v true) x ≡ true → r x u ≡ true
          → (x ≡ v) ⊎ (x ≢ v) → (is_in found u || r v u) ≡ true
      was x u low high h k (inl same) = or_right (is_in found u) (r v u) (ap (λ z. r z u) (sym same) ∙ k)
      was x u low high h k (inr other) = or_left (is_in found u) (r v u)
          (c.next x u low high (sym (still_in done v x other) ∙ h) k)

      here : (u : ℕ) → 1 ≤ u → u ≤ 64 → (is_in found u ≡ true) ⊎ (r v u ≡ true) → Reaches r t u
      here u low high (inl h) = c.sound u low high h
      here u low high (inr h) = reaches_on r t v u (c.sound v low' high' e) ([], h)

  module _ (found done : List Bool) (c : IsClosing r t found done) (inside : (v u : ℕ) → r v u ≡ true → IsTo 64 u)
      (all : (u : ℕ) → 1 ≤ u → u ≤ 64 → is_in found u ≡ true → is_in done u ≡ true) where
    on : (v : ℕ) → IsTo 64 v → is_in found v ≡ true → (vs : List ℕ) (u : ℕ) → Chain r v vs u → is_in found u ≡ true
    on v within e [] u k = c.next v u (inside v u k).0 (inside v u k).1 (all v within.0 within.1 e) k
    on v within e (x ∷ vs) u k =
        on x (inside v x k.0) (c.next v x (inside v x k.0).0 (inside v x k.0).1 (all v within.0 within.1 e) k.0) vs u
        k.1

    pub closing_last : (vs : List ℕ) (u : ℕ) → Chain r t vs u → is_in found u ≡ true
    closing_last [] u k = c.first u (inside t u k).0 (inside t u k).1 k
    closing_last (x ∷ vs) u k =
        on x (inside t x k.0) (c.first x (inside t x k.0).0 (inside t x k.0).1 k.0) vs u k.1

-- a chain of the converse relation leads back
pub reaches_back : (r : ℕ → ℕ → Bool) (t : ℕ) (vs : List ℕ) (u : ℕ) → Chain (λ a b. r b a) t vs u → Reaches r u t
reaches_back r t [] u k = ([], k)
reaches_back r t (v ∷ vs) u k = reaches_on r u v t (reaches_back r v vs u k.1) ([], k.0)

pub same_truth : (a b : Bool) → (a ≡ true → b ≡ true) → (b ≡ true → a ≡ true) → a ≡ b
same_truth true b there back = sym (there refl)
same_truth false false there back = refl
same_truth false true there back = back refl
