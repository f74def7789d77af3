-- Lemmas on `set`, on modes and on options.
use Rattle.std.proofs.Common.{◌≡◌, ℕ, ◌==◌, true, false, Option, None, Some, refl, sym, ap, ◌∙◌, inl, inr}
use Rattle.std.specs.Prelude.{◌⊎◌, ◌≢◌}
use mathlib.Core.Path.{fun_ext}
use Rattle.std.proofs.lemmas.Bool.{eq-eqb, ne_eqb, cases_eq, cond-true, cond-false}
use Rattle.oe_theory.specs.Machine.{Mode, Shared, Exclusive}
use Rattle.oe_theory.specs.World.{IsEnough, go_together, greater_mode, set}

module _ {A : Type 0} where
  pub set_same : (t : ℕ) (v : A) (f : ℕ → A) (u : ℕ) → u ≡ t → set t v f u ≡ v
  set_same t v f u e = cond-true (u == t) v (f u) (eq-eqb u t e)

  pub set_other : (t : ℕ) (v : A) (f : ℕ → A) (u : ℕ) → u ≢ t → set t v f u ≡ f u
  set_other t v f u e = cond-false (u == t) v (f u) (ne_eqb u t e)

  -- of two arguments set in turn, the order does not matter
  pub set_swap : (t u : ℕ) (v w : A) (f : ℕ → A) → u ≢ t → set t v (set u w f) ≡ set u w (set t v f)
  set_swap t u v w f ne = fun_ext (λ k. at_each k (cases_eq k t) (cases_eq k u))
    where
      at_each : (k : ℕ) → (k ≡ t) ⊎ (k ≢ t) → (k ≡ u) ⊎ (k ≢ u) → set t v (set u w f) k ≡ set u w (set t v f) k
      at_each k (inl e) (inl e') = absurd (ne (sym e' ∙ e))
      at_each k (inl e) (inr n) = set_same t v (set u w f) k e
          ∙ sym (set_other u w (set t v f) k n ∙ set_same t v f k e)
      at_each k (inr n) (inl e) = (set_other t v (set u w f) k n ∙ set_same u w f k e)
          ∙ sym (set_same u w (set t v f) k e)
      at_each k (inr n) (inr n') = (set_other t v (set u w f) k n ∙ set_other u w f k n')
          ∙ sym (set_other u w (set t v f) k n' ∙ set_other t v f k n)

  -- of two values at one argument, the later stays
  pub set_twice : (t : ℕ) (v w : A) (f : ℕ → A) → set t v (set t w f) ≡ set t v f
  set_twice t v w f = fun_ext (λ k. at_each k (cases_eq k t))
    where
      at_each : (k : ℕ) → (k ≡ t) ⊎ (k ≢ t) → set t v (set t w f) k ≡ set t v f k
      at_each k (inl e) = set_same t v (set t w f) k e ∙ sym (set_same t v f k e)
      at_each k (inr n) = (set_other t v (set t w f) k n ∙ set_other t w f k n) ∙ sym (set_other t v f k n)

  -- to set what stands there changes nothing
  pub set_idle : (t : ℕ) (v : A) (f : ℕ → A) → f t ≡ v → set t v f ≡ f
  set_idle t v f e = fun_ext (λ k. at_each k (cases_eq k t))
    where
      at_each : (k : ℕ) → (k ≡ t) ⊎ (k ≢ t) → set t v f k ≡ f k
      at_each k (inl q) = set_same t v f k q ∙ (sym e ∙ ap f (sym q))
      at_each k (inr n) = set_other t v f k n

-- the two ways in which an argument that was set has a value
pub set_cases : {A : Type 0} (t : ℕ) (v : Option A) (f : ℕ → Option A) (u : ℕ) (o : A) → set t v f u ≡ Some o
    → ((u ≡ t) × (v ≡ Some o)) ⊎ ((u ≢ t) × (f u ≡ Some o))
set_cases {A} t v f u o e = go (cases_eq u t)
  where
    go : (u ≡ t) ⊎ (u ≢ t) → ((u ≡ t) × (v ≡ Some o)) ⊎ ((u ≢ t) × (f u ≡ Some o))
    go (inl q) = inl (q, sym (set_same t v f u q) ∙ e)
    go (inr n) = inr (n, sym (set_other t v f u n) ∙ e)

pub some_inj : {A : Type 0} (a b : A) → ◌≡◌ {A = Option A} (Some a) (Some b) → a ≡ b
some_inj a b e = cc

pub some_none : {A : Type 0} (a : A) → ◌≡◌ {A = Option A} (Some a) None → ⊥
some_none a e = cc

-- what is enough for a mode is enough for what that mode is enough for
pub enough_up : (o : Option Mode) (m n : Mode) → IsEnough o m → IsEnough (Some m) n → IsEnough o n
enough_up None m n a b = absurd a
enough_up (Some Exclusive) m n a b = tt
enough_up (Some Shared) Exclusive n a b = absurd a
enough_up (Some Shared) Shared n a b = b

pub enough_shared : (o : Option Mode) (m : Mode) → IsEnough o m → IsEnough o Shared
enough_shared None m a = a
enough_shared (Some Exclusive) m a = tt
enough_shared (Some Shared) m a = tt

pub risen_enough : (m : Mode) (o : Option Mode) → IsEnough (Some (greater_mode m o)) m
risen_enough Exclusive o = tt
risen_enough Shared None = tt
risen_enough Shared (Some Shared) = tt
risen_enough Shared (Some Exclusive) = tt

pub risen_keeps : (m n : Mode) (o : Option Mode) → IsEnough o n → IsEnough (Some (greater_mode m o)) n
risen_keeps Exclusive n o a = tt
risen_keeps Shared n None a = absurd a
risen_keeps Shared n (Some p) a = a

-- a mode that rose came from one of its two causes
pub risen_exclusive : (m : Mode) (o : Option Mode) → IsEnough (Some (greater_mode m o)) Exclusive
    → (m ≡ Exclusive) ⊎ (IsEnough o Exclusive)
risen_exclusive Exclusive o a = inl refl
risen_exclusive Shared None a = absurd a
risen_exclusive Shared (Some p) a = inr a

pub together_shared : (m : Mode) (o : Option Mode) → go_together m o ≡ true → IsEnough o Exclusive → ⊥
together_shared m None e a = a
together_shared Exclusive (Some n) e a = let h : true ≡ false = sym e in cc
together_shared Shared (Some Exclusive) e a = let h : true ≡ false = sym e in cc
together_shared Shared (Some Shared) e a = a

pub together_exclusive : (o : Option Mode) → go_together Exclusive o ≡ true → IsEnough o Shared → ⊥
together_exclusive None e a = a
together_exclusive (Some n) e a = let h : true ≡ false = sym e in cc
