-- What a search of a list finds.
use Rattle.std.proofs.Common.{◌≡◌, ℕ, suc, ◌≤◌, refl, sym, ◌∙◌, ap, subst, Bool, true, false, cond, List, [], ◌∷◌, Some}
use Rattle.std.proofs.Common.{None, inl, inr, arith}
use Rattle.std.specs.Prelude.{◌⊎◌, ◌||◌, not, find, filter, nat_le}
use Rattle.std.specs.List.{list_any}
use Rattle.std.proofs.lemmas.Bool.{leb-true, leb-false}
use Rattle.oe_model.specs.Lists.{IsAmong}
use Rattle.oe_model.proofs.EntryFacts.{EachOf}

or_true : (b : Bool) → (b || true) ≡ true
or_true true = refl
or_true false = refl

not_true : (b : Bool) → not b ≡ true → b ≡ false
not_true true e = let no : ⊥ = cc in absurd no
not_true false e = refl

module _ {A : Type 0} where
  pub each_among : (P : A → Type 0) (xs : List A) (x : A) → EachOf P xs → IsAmong x xs → P x
  each_among P [] x h i = absurd i
  each_among P (y ∷ xs) x h (inl e) = subst P e h.0
  each_among P (y ∷ xs) x h (inr i) = each_among P xs x h.1 i

  pub none_is : (f : A → Bool) (xs : List A) → ((x : A) → IsAmong x xs → f x ≡ false) → list_any f xs ≡ false
  none_is f [] h = refl
  none_is f (x ∷ xs) h = let rest = none_is f xs (λ i k. h i (inr k)) in λ j. h x (inl refl) j || rest j

  pub one_is : (f : A → Bool) (xs : List A) (x : A) → IsAmong x xs → f x ≡ true → list_any f xs ≡ true
  one_is f [] x i t = absurd i
  one_is f (y ∷ xs) x (inl e) t = ap (λ b. b || list_any f xs) (ap f e ∙ t)
  one_is f (y ∷ xs) x (inr i) t = ap (λ b. f y || b) (one_is f xs x i t) ∙ or_true (f y)

  -- what is found passes the test, and stands in the list; where nothing is found none passes
  pub found_passes : (test : A → Bool) (xs : List A) (x : A) → find test xs ≡ Some x → (test x ≡ true) × IsAmong x xs
  found_passes test [] x e = let no : ⊥ = cc in absurd no
  found_passes test (y ∷ xs) x e = by_test (test y) refl e (found_passes test xs x)
    where
      by_test : (b : Bool) → test y ≡ b → cond b (Some y) (find test xs) ≡ Some x
          → (find test xs ≡ Some x → (test x ≡ true) × IsAmong x xs) → (test x ≡ true) × ((y ≡ x) ⊎ IsAmong x xs)
      by_test true t e rest = let same : y ≡ x = cc in (ap test (sym same) ∙ t, inl same)
      by_test false t e rest = let h = rest e in (h.0, inr h.1)

  pub none_passes : (test : A → Bool) (xs : List A) (x : A) → find test xs ≡ None → IsAmong x xs → test x ≡ true → ⊥
  none_passes test [] x e i t = i
  none_passes test (y ∷ xs) x e i t = by_test (test y) refl e i (λ f j. none_passes test xs x f j t)
    where
      by_test : (b : Bool) → test y ≡ b → cond b (Some y) (find test xs) ≡ None → (y ≡ x) ⊎ IsAmong x xs
          → (find test xs ≡ None → IsAmong x xs → ⊥) → ⊥
      by_test true s e i rest = let no : ⊥ = cc in no
      by_test false s e (inl same) rest = let z : false ≡ true = sym s ∙ ap test same ∙ t in let no : ⊥ = cc in no
      by_test false s e (inr j) rest = rest e j

  -- of what is found best nothing in the list is better
  pub unbeaten : (beats : A → A → Bool) (xs : List A) (x y : A) → find (λ x. not (list_any (beats x) xs)) xs ≡ Some x
      → IsAmong y xs → beats x y ≡ false
  unbeaten beats xs x y e k =
      let none : list_any (beats x) xs ≡ false = not_true (list_any (beats x) xs)
      (found_passes (λ x. not (list_any (beats x) xs)) xs x e).0 in
      by_test (beats x y) refl none
    where
      by_test : (b : Bool) → beats x y ≡ b → list_any (beats x) xs ≡ false → b ≡ false
      by_test true t none = let z : true ≡ false = sym (one_is (beats x) xs y k t) ∙ none in let no : ⊥ = cc in
          absurd no
      by_test false t none = refl

  -- a list with an element has a greatest one
  pub top : (f : A → ℕ) (x : A) (xs : List A) → (y : A) × IsAmong y (x ∷ xs)
      × ((z : A) → IsAmong z (x ∷ xs) → f z ≤ f y)
  top f x [] = (x, inl refl, λ z i. only z i)
    where
      only : (z : A) → (x ≡ z) ⊎ ⊥ → f z ≤ f x
      only z (inl e) = let h : f x ≡ f z = ap f e in omega arith
      only z (inr i) = absurd i
  top f x (w ∷ xs) = of_rest (top f w xs)
    where
      of_rest : (y : A) × IsAmong y (w ∷ xs) × ((z : A) → IsAmong z (w ∷ xs) → f z ≤ f y)
          → (y : A) × IsAmong y (x ∷ w ∷ xs) × ((z : A) → IsAmong z (x ∷ w ∷ xs) → f z ≤ f y)
      of_rest t = by_test (nat_le (f x) (f t.0)) refl
        where
          low : f x ≤ f t.0 → (z : A) → (x ≡ z) ⊎ IsAmong z (w ∷ xs) → f z ≤ f t.0
          low h z (inl e) = let g : f x ≡ f z = ap f e in omega arith
          low h z (inr i) = t.2 z i

          high : f t.0 ≤ f x → (z : A) → (x ≡ z) ⊎ IsAmong z (w ∷ xs) → f z ≤ f x
          high h z (inl e) = let g : f x ≡ f z = ap f e in omega arith
          high h z (inr i) = let g = t.2 z i in omega arith

          by_test : (b : Bool) → nat_le (f x) (f t.0) ≡ b → (y : A) × IsAmong y (x ∷ w ∷ xs)
              × ((z : A) → IsAmong z (x ∷ w ∷ xs) → f z ≤ f y)
          by_test true e = (t.0, inr t.1, low (leb-true (f x) (f t.0) e))
          by_test false e = let less = leb-false (f x) (f t.0) e in
              (x, inl refl, high (let z : f t.0 ≤ f x = omega arith in z))

  -- what is kept of a list
  pub kept_among : (p : A → Bool) (xs : List A) (x : A) → IsAmong x xs → p x ≡ true → IsAmong x (filter p xs)
  kept_among p [] x i t = i
  kept_among p (y ∷ xs) x i t = by_test (p y) refl i (λ j. kept_among p xs x j t)
    where
      by_test : (b : Bool) → p y ≡ b → (y ≡ x) ⊎ IsAmong x xs → (IsAmong x xs → IsAmong x (filter p xs))
          → IsAmong x (cond b (y ∷ filter p xs) (filter p xs))
      by_test true s (inl e) rest = inl e
      by_test true s (inr j) rest = inr (rest j)
      by_test false s (inl e) rest = let z : false ≡ true = sym s ∙ ap p e ∙ t in let no : ⊥ = cc in absurd no
      by_test false s (inr j) rest = rest j

  pub each_kept : (P : A → Type 0) (p : A → Bool) (xs : List A) → EachOf P xs
      → EachOf (λ x. P x × (p x ≡ true)) (filter p xs)
  each_kept P p [] h = tt
  each_kept P p (y ∷ xs) h = by_test (p y) refl (each_kept P p xs h.1)
    where
      by_test : (b : Bool) → p y ≡ b → EachOf (λ x. P x × (p x ≡ true)) (filter p xs)
          → EachOf (λ x. P x × (p x ≡ true)) (cond b (y ∷ filter p xs) (filter p xs))
      by_test true t rest = ((h.0, t), rest)
      by_test false t rest = rest

pub not_above : (n m : ℕ) → m ≤ n → nat_le (suc n) m ≡ false
not_above n m h = by_test (nat_le (suc n) m) refl
  where
    by_test : (b : Bool) → nat_le (suc n) m ≡ b → b ≡ false
    by_test true t = let z : suc n ≤ m = leb-true (suc n) m t in absurd (let no : ⊥ = omega arith in no)
    by_test false t = refl
