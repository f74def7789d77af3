-- Places by number, seen from keys that have numbers.
use Rattle.std.proofs.Common.{◌≡◌, refl, sym, ◌∙◌, ap, subst, Bool, true, false, cond, ℕ, zero, suc, ◌≤◌, List, [], ◌∷◌}
use Rattle.std.proofs.Common.{set, Option, Some, None, arith}
use Rattle.std.specs.Prelude.{IsSome, slice_get, eqb, leb, ◌&&◌}
use Rattle.std.proofs.lemmas.Option.{same_Some}
use Rattle.std.proofs.lemmas.Bool.{leb-true, eqb-true}
use Rattle.std.specs.Ordering.{eq_by_cmp}
use Rattle.std.specs.declared.cmp.Ordering.{Ordering}
use Rattle.std.specs.Cmp.{IsTotalOrder}
use Rattle.std.specs.FinMap.{IsAntisymmetric}
use Rattle.oe_model.proofs.MapFacts.{is_same, is_self}
use Rattle.oe_undo.specs.Places.{place_at, with_content}
use Rattle.oe_undo.specs.declared.links.OwnedLink.{OwnedLink}
use Rattle.oe_undo.specs.Tables.{LinkTable, link_by_number, with_number, is_not_above, SetsNumber}

module _ {X : Type 0} where
  set_here : (xs : List X) (n : ℕ) (x : X) → IsSome (slice_get xs n) → slice_get (set xs n x) n ≡ Some x
  set_here [] n x some = cc
  set_here (y ∷ ys) zero x some = refl
  set_here (y ∷ ys) (suc n) x some = set_here ys n x some

  set_other : (xs : List X) (n m : ℕ) (x : X) → (n ≡ m → ⊥) → slice_get (set xs n x) m ≡ slice_get xs m
  set_other [] n m x h = refl
  set_other (y ∷ ys) zero zero x h = absurd (h refl)
  set_other (y ∷ ys) zero (suc m) x h = refl
  set_other (y ∷ ys) (suc n) zero x h = refl
  set_other (y ∷ ys) (suc n) (suc m) x h = set_other ys n m x (λ e. h (ap suc e))

  set_same : (xs : List X) (n : ℕ) (x : X) → slice_get xs n ≡ Some x → set xs n x ≡ xs
  set_same [] n x e = refl
  set_same (y ∷ ys) zero x e = ap (λ z. z ∷ ys) (sym (same_Some y x e))
  set_same (y ∷ ys) (suc n) x e = ap (λ zs. y ∷ zs) (set_same ys n x e)

  shorter : (xs : List X) (n m : ℕ) → m ≤ n → IsSome (slice_get xs n) → IsSome (slice_get xs m)
  shorter [] n m up some = cc
  shorter (y ∷ ys) n zero up some = refl
  shorter (y ∷ ys) zero (suc m) up some = absurd (omega (arith, up))
  shorter (y ∷ ys) (suc n) (suc m) up some = shorter ys n m (omega (arith, up)) some

module _ {X : Type 0} where
  with_here : (t : List (List (Option X))) (s n : ℕ) (p : Option X) → IsSome (place_at t s n)
      → place_at (with_content t s n p) s n ≡ Some p
  with_here [] s n p some = cc
  with_here (xs ∷ t) zero n p some = set_here xs n p some
  with_here (xs ∷ t) (suc s) n p some = with_here t s n p some

  with_other : (t : List (List (Option X))) (s n r m : ℕ) (p : Option X) → (s ≡ r → n ≡ m → ⊥)
      → place_at (with_content t s n p) r m ≡ place_at t r m
  with_other [] s n r m p h = refl
  with_other (xs ∷ t) zero n zero m p h = set_other xs n m p (h refl)
  with_other (xs ∷ t) zero n (suc r) m p h = refl
  with_other (xs ∷ t) (suc s) n zero m p h = refl
  with_other (xs ∷ t) (suc s) n (suc r) m p h = with_other t s n r m p (λ e. h (ap suc e))

  with_same : (t : List (List (Option X))) (s n : ℕ) (p : Option X) → place_at t s n ≡ Some p → with_content t s n p ≡ t
  with_same [] s n p e = refl
  with_same (xs ∷ t) zero n p e = ap (λ ys. ys ∷ t) (set_same xs n p e)
  with_same (xs ∷ t) (suc s) n p e = ap (λ r. xs ∷ r) (with_same t s n p e)

-- to put in what stands there changes nothing
pub number_same : (t : LinkTable) (s : ℕ) (o : Option ℕ) (l : Option OwnedLink) → link_by_number t s o ≡ Some l
    → with_number t s o l ≡ t
number_same t s None l e = refl
number_same t s (Some n) l e = with_same t s n l e

-- a number that isn't above one with a place has one too
pub not_above_placed : (t : LinkTable) (s : ℕ) (o : Option ℕ) (r : ℕ) (q : Option ℕ) → is_not_above s o r q ≡ true
    → IsSome (link_by_number t s o) → IsSome (link_by_number t r q)
not_above_placed t s None r q h some = cc
not_above_placed t s (Some n) r None h some = cc
not_above_placed t s (Some n) r (Some m) h some = go (eqb s r) (leb m n) refl refl h
  where
    go : (a b : Bool) → eqb s r ≡ a → leb m n ≡ b → (a && b) ≡ true → IsSome (place_at t r m)
    go true true e f g = subst (λ i. IsSome (place_at t i m)) (eqb-true s r e) (shorter _ n m (leb-true m n f) some)
    go true false e f g = cc
    go false b e f g = cc

module _ {K : Type 0} {cmp : K → K → Ordering} (total : IsTotalOrder cmp) (exact : IsAntisymmetric cmp)
    (shelf_of : K → ℕ) (number_of : K → Option ℕ)
    (numbered : (j k : K) (n : ℕ) → shelf_of j ≡ shelf_of k → number_of j ≡ Some n → number_of k ≡ Some n → j ≡ k) where
  -- a link put in a key's place is set there
  pub sets_number : (t : LinkTable) (own : K) (l : Option OwnedLink)
      → IsSome (link_by_number t (shelf_of own) (number_of own))
      → SetsNumber cmp shelf_of number_of t (with_number t (shelf_of own) (number_of own) l) own l
  sets_number t own l some k = by (number_of own) refl
    where
      apart : (n m : ℕ) → number_of own ≡ Some n → number_of k ≡ Some m → eq_by_cmp cmp own k ≡ false
          → shelf_of own ≡ shelf_of k → n ≡ m → ⊥
      apart n m e r q s i =
          let one : own ≡ k = numbered own k n s e (r ∙ ap Some (sym i)) in
          let yes : eq_by_cmp cmp own k ≡ true = subst (λ j. eq_by_cmp cmp own j ≡ true) one
          (is_self total exact own) in
          let no : ◌≡◌ {A = Bool} false true = sym q ∙ yes in
          cc

      other : (n : ℕ) → number_of own ≡ Some n → eq_by_cmp cmp own k ≡ false → (o : Option ℕ) → number_of k ≡ o
          → link_by_number (with_content t (shelf_of own) n l) (shelf_of k) o ≡ link_by_number t (shelf_of k) o
      other n e q None r = refl
      other n e q (Some m) r = with_other t (shelf_of own) n (shelf_of k) m l (apart n m e r q)

      inner : (n : ℕ) → number_of own ≡ Some n → (b : Bool) → eq_by_cmp cmp own k ≡ b
          → link_by_number (with_content t (shelf_of own) n l) (shelf_of k) (number_of k) ≡ cond b (Some l)
          (link_by_number t (shelf_of k) (number_of k))
      inner n e true q =
          subst (λ j. link_by_number (with_content t (shelf_of own) n l) (shelf_of j) (number_of j) ≡ Some l)
          (is_same total exact own k q)
          (ap (link_by_number (with_content t (shelf_of own) n l) (shelf_of own)) e
          ∙ with_here t (shelf_of own) n l (subst (λ o. IsSome (link_by_number t (shelf_of own) o)) e some))
      inner n e false q = other n e q (number_of k) refl

      by : (o : Option ℕ) → number_of own ≡ o
          → link_by_number (with_number t (shelf_of own) (number_of own) l) (shelf_of k) (number_of k) ≡ cond
          (eq_by_cmp cmp own k) (Some l) (link_by_number t (shelf_of k) (number_of k))
      by None e = let no : IsSome {T = Option OwnedLink} None = subst
          (λ o. IsSome (link_by_number t (shelf_of own) o)) e
          some in cc
      by (Some n) e =
          ap (λ o. link_by_number (with_number t (shelf_of own) o l) (shelf_of k) (number_of k)) e
          ∙ inner n e (eq_by_cmp cmp own k) refl
