-- In a list without repetition, under a total order, each rank below the length is that of an element.
use Rattle.std.proofs.Common.{◌≡◌, ℕ, zero, suc, ◌+◌, ◌-◌, ◌<◌, ◌≤◌, refl, sym, ◌∙◌, ap, subst, Bool, true, false, cond}
use Rattle.std.proofs.Common.{List, [], ◌∷◌, length, inl, inr, arith}
use Rattle.std.specs.Prelude.{◌⊎◌, count_by}
use Rattle.std.specs.declared.cmp.Ordering.{Ordering}
use Rattle.std.specs.declared.cmp.Ordering.TheVariants.{Less, Equal, Greater}
use Rattle.std.specs.Cmp.{IsTotalOrder, tied_itself}
use Rattle.std.specs.Ordering.{is_lt, ordering_reverse}
use Rattle.std.proofs.lemmas.List.Sums.{sum_by-cons}
use Rattle.std.specs.FinMap.{IsAntisymmetric}
use Rattle.oe_model.specs.Lists.{IsAmong, IsDistinct}

module _ {A : Type 0} where
  count_cons : (f : A → Bool) (x : A) (xs : List A) → count_by f (x ∷ xs) ≡ cond (f x) 1 0 + count_by f xs
  count_cons f x xs = sum_by-cons (λ x. cond (f x) 1 0) x xs

  -- what passes one test and so the other
  count_le : (f g : A → Bool) (xs : List A) → ((z : A) → IsAmong z xs → f z ≡ true → g z ≡ true)
      → count_by f xs ≤ count_by g xs
  count_le f g [] h = omega arith
  count_le f g (x ∷ xs) h = by_test (f x) (g x) refl refl (count_le f g xs (λ z i. h z (inr i)))
    where
      by_test : (a b : Bool) → f x ≡ a → g x ≡ b → count_by f xs ≤ count_by g xs
          → count_by f (x ∷ xs) ≤ count_by g (x ∷ xs)
      by_test true true s t rest =
          let a = count_cons f x xs in let b = count_cons g x xs in
          let c : cond {A = ℕ} (f x) 1 0 ≡ 1 = ap (λ b. cond b 1 0) s in
          let d : cond {A = ℕ} (g x) 1 0 ≡ 1 = ap (λ b. cond b 1 0) t in omega arith
      by_test true false s t rest = let e : true ≡ false = sym (h x (inl refl) s) ∙ t in let no : ⊥ = cc in absurd no
      by_test false b s t rest =
          let a = count_cons f x xs in let b = count_cons g x xs in
          let c : cond {A = ℕ} (f x) 1 0 ≡ 0 = ap (λ b. cond b 1 0) s in omega arith

  count_lt : (f g : A → Bool) (xs : List A) (y : A) → IsAmong y xs → f y ≡ false → g y ≡ true
      → ((z : A) → IsAmong z xs → f z ≡ true → g z ≡ true) → count_by f xs + 1 ≤ count_by g xs
  count_lt f g [] y i s t h = absurd i
  count_lt f g (x ∷ xs) y (inl e) s t h =
      let rest = count_le f g xs (λ z i. h z (inr i)) in
      let a = count_cons f x xs in let b = count_cons g x xs in
      let c : cond {A = ℕ} (f x) 1 0 ≡ 0 = ap (λ b. cond b 1 0) (ap f e ∙ s) in
      let d : cond {A = ℕ} (g x) 1 0 ≡ 1 = ap (λ b. cond b 1 0) (ap g e ∙ t) in omega arith
  count_lt f g (x ∷ xs) y (inr i) s t h = by_test (f x) (g x) refl refl (count_lt f g xs y i s t (λ z j. h z (inr j)))
    where
      by_test : (a b : Bool) → f x ≡ a → g x ≡ b → count_by f xs + 1 ≤ count_by g xs
          → count_by f (x ∷ xs) + 1 ≤ count_by g (x ∷ xs)
      by_test true true s t rest =
          let a = count_cons f x xs in let b = count_cons g x xs in
          let c : cond {A = ℕ} (f x) 1 0 ≡ 1 = ap (λ b. cond b 1 0) s in
          let d : cond {A = ℕ} (g x) 1 0 ≡ 1 = ap (λ b. cond b 1 0) t in omega arith
      by_test true false s t rest = let e : true ≡ false = sym (h x (inl refl) s) ∙ t in let no : ⊥ = cc in absurd no
      by_test false b s t rest =
          let a = count_cons f x xs in let b = count_cons g x xs in
          let c : cond {A = ℕ} (f x) 1 0 ≡ 0 = ap (λ b. cond b 1 0) s in omega arith

module _ {A : Type 0} {R : A → A → Ordering} (o : IsTotalOrder R) (exact : IsAntisymmetric R) where
  abbrev before : A → A → Bool
  before a b = is_lt (R a b)

  less : (r : Ordering) → is_lt r ≡ true → r ≡ Less
  less Less e = refl
  less Equal e = let no : ⊥ = cc in absurd no
  less Greater e = let no : ⊥ = cc in absurd no

  not_itself : (a : A) → before a a ≡ false
  not_itself a = ap is_lt (tied_itself o a)

  along : (a b c : A) → before a b ≡ true → before b c ≡ true → before a c ≡ true
  along a b c s t = ap is_lt (o.trans a b c (less (R a b) s) (less (R b c) t))

  not_back : (a b : A) → before a b ≡ true → before b a ≡ false
  not_back a b s = by_test (before b a) refl
    where
      by_test : (t : Bool) → before b a ≡ t → t ≡ false
      by_test true t = sym (along a b a s t) ∙ not_itself a
      by_test false t = refl

  one_way : (a b : A) → (a ≡ b → ⊥) → before a b ≡ false → before b a ≡ true
  one_way a b apart s = by_order (R a b) refl s
    where
      by_order : (r : Ordering) → R a b ≡ r → is_lt r ≡ false → before b a ≡ true
      by_order Less e t = let no : ⊥ = cc in absurd no
      by_order Equal e t = absurd (apart (exact a b e))
      by_order Greater e t = ap is_lt (o.antisymm b a) ∙ ap (λ r. is_lt (ordering_reverse r)) e

  -- how many of a list come before y
  abbrev rank : A → List A → ℕ
  rank y xs = count_by (λ z. before z y) xs

  -- an element of lower rank than x comes before it, and one of at least its rank after
  lower_before : (x y : A) (xs : List A) → (y ≡ x → ⊥) → rank y xs < rank x xs → before y x ≡ true
  lower_before x y xs apart low = by_test (before y x) refl
    where
      by_test : (t : Bool) → before y x ≡ t → t ≡ true
      by_test true t = refl
      by_test false t =
          let back = one_way y x apart t in
          let more = count_le (λ z. before z x) (λ z. before z y) xs (λ z _ s. along z x y s back) in
          absurd (let no : ⊥ = omega arith in no)

  higher_after : (x y : A) (xs : List A) → IsAmong y xs → (x ≡ y → ⊥) → rank x xs ≤ rank y xs → before x y ≡ true
  higher_after x y xs i apart high = by_test (before x y) refl
    where
      by_test : (t : Bool) → before x y ≡ t → t ≡ true
      by_test true t = refl
      by_test false t =
          let back = one_way x y apart t in
          let more = count_lt (λ z. before z y) (λ z. before z x) xs y i (not_itself y) back
          (λ z _ s. along z y x s back) in
          absurd (let no : ⊥ = omega arith in no)

  rank_with : (x y : A) (xs : List A) (b : Bool) → before x y ≡ b → rank y (x ∷ xs) ≡ cond b 1 0 + rank y xs
  rank_with x y xs b e = count_cons (λ z. before z y) x xs ∙ ap (λ t. cond t 1 0 + rank y xs) e

  abbrev pub HasRank : List A → ℕ → Type 0
  HasRank xs j = (y : A) × IsAmong y xs × (rank y xs ≡ j)

  rank_low : (xs : List A) (y : A) → rank y xs ≤ length xs
  rank_low xs y = Rattle.std.proofs.lemmas.List.Sums.count_by-le-length (λ z. before z y) xs

  -- the other elements of a list, beside x, where it is not among them
  apart_from : (x y : A) (xs : List A) → (IsAmong x xs → ⊥) → IsAmong y xs → y ≡ x → ⊥
  apart_from x y xs n i e = n (subst (λ z. IsAmong z xs) e i)

  step : (x : A) (xs : List A) → (IsAmong x xs → ⊥) → ((j : ℕ) → j < length xs → HasRank xs j) → (j : ℕ)
      → j < length xs + 1 → (j < rank x xs) ⊎ ((j ≡ rank x xs) ⊎ (rank x xs < j)) → HasRank (x ∷ xs) j
  step x xs new rest j low (inl less) =
      let all = rank_low xs x in
      let h = rest j (let z : j < length xs = omega arith in z) in
      let y : A = h.0 in
      let is : rank y xs ≡ j = h.2 in
      let b = lower_before x y xs (apart_from x y xs new h.1) (let z : rank y xs < rank x xs = omega arith in z) in
      let r = rank_with x y xs false (not_back y x b) in
      (y, inr h.1, (let z : rank y (x ∷ xs) ≡ j = omega arith in z))
  step x xs new rest j low (inr (inl same)) =
      let r = rank_with x x xs false (not_itself x) in
      (x, inl refl, (let z : rank x (x ∷ xs) ≡ j = omega arith in z))
  step x xs new rest j low (inr (inr more)) =
      let h = rest (j - 1) (let z : j - 1 < length xs = omega arith in z) in
      let y : A = h.0 in
      let is : rank y xs ≡ j - 1 = h.2 in
      let b = higher_after x y xs h.1 (λ e. apart_from x y xs new h.1 (sym e))
      (let z : rank x xs ≤ rank y xs = omega arith in z) in
      let r = rank_with x y xs true b in
      (y, inr h.1, (let z : rank y (x ∷ xs) ≡ j = omega arith in z))

  three : (a b : ℕ) → (a < b) ⊎ ((a ≡ b) ⊎ (b < a))
  three zero zero = inr (inl refl)
  three zero (suc b) = inl (omega arith)
  three (suc a) zero = inr (inr (omega arith))
  three (suc a) (suc b) = up (three a b)
    where
      up : (a < b) ⊎ ((a ≡ b) ⊎ (b < a)) → (suc a < suc b) ⊎ ((suc a ≡ suc b) ⊎ (suc b < suc a))
      up (inl h) = inl (omega arith)
      up (inr (inl h)) = inr (inl (ap suc h))
      up (inr (inr h)) = inr (inr (omega arith))

  pub each_rank : (xs : List A) → IsDistinct xs → (j : ℕ) → j < length xs → HasRank xs j
  each_rank [] d j low = absurd (let no : ⊥ = omega arith in no)
  each_rank (x ∷ xs) d j low = step x xs d.0 (λ i h. each_rank xs d.1 i h) j (omega arith) (three j (rank x xs))
