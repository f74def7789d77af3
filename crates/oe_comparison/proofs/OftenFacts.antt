-- How often rows are told that stand more often on one side.
use Rattle.std.proofs.Common.{◌≡◌, ◌⊎◌, inl, inr, ℕ, ◌+◌, ◌-◌, Bool, false, List, [], ◌∷◌, None}
use Rattle.std.proofs.Common.{refl, sym, ap, subst, ◌∙◌, add-one, arith}
use Rattle.std.specs.Prelude.{cond}
use Rattle.std.proofs.lemmas.List.Sums.{sum_by-cons}
use Rattle.std.specs.Cmp.{IsTotalOrder}
use Rattle.std.specs.List.{count_by}
use Rattle.std.specs.List.Sorted.{IsSorted}
use Rattle.std.specs.Ordering.{eq_by_cmp, is_eq, is_lt, ordering_reverse}
use Rattle.std.specs.declared.cmp.Ordering.{Ordering}
use Rattle.std.specs.declared.cmp.Ordering.TheVariants.{Less, Equal, Greater}
use Rattle.oe_comparison.specs.Differences.{Difference, Extra, Missing, differences_at, differences, keyless}
use Rattle.oe_comparison.specs.Often.{times, is_extra, is_missing, is_column}

-- an ordering that is not Greater, and one that is
not_back : (c : Ordering) → is_lt (ordering_reverse c) ≡ false → (c ≡ Less) ⊎ (c ≡ Equal)
not_back Less h = inl refl
not_back Equal h = inr refl
not_back Greater h = cc

abbrev one_of : Bool → ℕ
one_of b = cond b 1 0

one_or_none : (c : Ordering) → (one_of (is_eq c) ≡ 0) ⊎ (c ≡ Equal)
one_or_none Less = inl refl
one_or_none Equal = inr refl
one_or_none Greater = inl refl

-- one more in front
more : {A : Type 0} (p : A → Bool) (x : A) (xs : List A) → count_by p (x ∷ xs) ≡ one_of (p x) + count_by p xs
more p x xs = sum_by-cons (λ y. one_of (p y)) x xs

module _ {X : Type 0} (cmp : X → X → Ordering) (total : IsTotalOrder cmp) where
  rest_sorted : (x : X) (xs : List X) → IsSorted cmp (x ∷ xs) → IsSorted cmp xs
  rest_sorted x xs up k d low high =
      simp add-one (simp add-one at (up (k + 1) d (omega arith) (omega (arith, high))))

  next_up : (x y : X) (xs : List X) → IsSorted cmp (x ∷ y ∷ xs) → (cmp x y ≡ Less) ⊎ (cmp x y ≡ Equal)
  next_up x y xs up =
      let back : is_lt (cmp y x) ≡ false = up 0 x (omega arith) (omega arith) in
      not_back (cmp x y) (subst (λ (c : Ordering). is_lt c ≡ false) (total.antisymm y x) back)

  less_next : (t x y : X) → cmp t x ≡ Less → (cmp x y ≡ Less) ⊎ (cmp x y ≡ Equal) → cmp t y ≡ Less
  less_next t x y h (inl less) = total.trans t x y h less
  less_next t x y h (inr tie) =
      let alike : cmp t x ≡ cmp t y =
      total.antisymm t x ∙ (ap ordering_reverse (total.congr x y t tie) ∙ sym (total.antisymm t y)) in
      sym alike ∙ h

  -- a row that is less than the first of sorted rows stands nowhere among them
  absent : (h t : X) (xs : List X) (x : X) → cmp h t ≡ Equal → cmp t x ≡ Less → IsSorted cmp (x ∷ xs)
      → times cmp h (x ∷ xs) ≡ 0
  absent h t [] x tie less up =
      let none : one_of (is_eq (cmp h x)) ≡ 0 =
      ap (λ (c : Ordering). one_of (is_eq c)) (total.congr h t x tie ∙ less) in
      let cons = more (eq_by_cmp cmp h) x [] in
      omega (arith, cons, none)
  absent h t (y ∷ ys) x tie less up =
      let none : one_of (is_eq (cmp h x)) ≡ 0 =
      ap (λ (c : Ordering). one_of (is_eq c)) (total.congr h t x tie ∙ less) in
      let rest = absent h t ys y tie (less_next t x y less (next_up x y ys up)) (rest_sorted x (y ∷ ys) up) in
      let cons = more (eq_by_cmp cmp h) x (y ∷ ys) in
      omega (arith, cons, none, rest)

  back : (x y : X) → cmp x y ≡ Greater → cmp y x ≡ Less
  back x y h = total.antisymm y x ∙ ap ordering_reverse h

  abbrev Told : X → List (Difference X) → List X → List X → Type 0
  Told h ds ts os =
      (count_by (is_extra cmp h) ds ≡ times cmp h ts - times cmp h os)
      × (count_by (is_missing cmp h) ds ≡ times cmp h os - times cmp h ts)

  all_missing : (h : X) (os : List X) → Told h (differences cmp [] (keyless os)) [] os
  all_missing h [] = (refl, refl)
  all_missing h (o ∷ os) =
      let rest = all_missing h os in
      let first = rest.0 in
      let second = rest.1 in
      let ours = more (eq_by_cmp cmp h) o os in
      let extra = more (is_extra cmp h) (Missing o) (differences cmp [] (keyless os)) in
      let missing = more (is_missing cmp h) (Missing o) (differences cmp [] (keyless os)) in
      (omega (arith, first, ours, extra), omega (arith, second, ours, missing))

  -- a row of the file in front, which this order has not
  extra_told : (h t : X) (ds : List (Difference X)) (ts os : List X)
      → (one_of (is_eq (cmp h t)) ≡ 0) ⊎ (times cmp h os ≡ 0) → Told h ds ts os → Told h (Extra t ∷ ds) (t ∷ ts) os
  extra_told h t ds ts os (inl none) told =
      let first = told.0 in
      let second = told.1 in
      let theirs = more (eq_by_cmp cmp h) t ts in
      let extra = more (is_extra cmp h) (Extra t) ds in
      let missing = more (is_missing cmp h) (Extra t) ds in
      (omega (arith, none, first, theirs, extra), omega (arith, none, second, theirs, missing))
  extra_told h t ds ts os (inr none) told =
      let first = told.0 in
      let second = told.1 in
      let theirs = more (eq_by_cmp cmp h) t ts in
      let extra = more (is_extra cmp h) (Extra t) ds in
      let missing = more (is_missing cmp h) (Extra t) ds in
      (omega (arith, none, first, theirs, extra), omega (arith, none, second, theirs, missing))

  missing_told : (h o : X) (ds : List (Difference X)) (ts os : List X)
      → (one_of (is_eq (cmp h o)) ≡ 0) ⊎ (times cmp h ts ≡ 0) → Told h ds ts os → Told h (Missing o ∷ ds) ts (o ∷ os)
  missing_told h o ds ts os (inl none) told =
      let first = told.0 in
      let second = told.1 in
      let ours = more (eq_by_cmp cmp h) o os in
      let extra = more (is_extra cmp h) (Missing o) ds in
      let missing = more (is_missing cmp h) (Missing o) ds in
      (omega (arith, none, first, ours, extra), omega (arith, none, second, ours, missing))
  missing_told h o ds ts os (inr none) told =
      let first = told.0 in
      let second = told.1 in
      let ours = more (eq_by_cmp cmp h) o os in
      let extra = more (is_extra cmp h) (Missing o) ds in
      let missing = more (is_missing cmp h) (Missing o) ds in
      (omega (arith, none, first, ours, extra), omega (arith, none, second, ours, missing))

  -- where a row that ties is among none of these
  lone : (h t : X) (os : List X) → (cmp h t ≡ Equal → times cmp h os ≡ 0)
      → (one_of (is_eq (cmp h t)) ≡ 0) ⊎ (times cmp h os ≡ 0)
  lone h t os none = by (one_or_none (cmp h t))
    where
      by : (one_of (is_eq (cmp h t)) ≡ 0) ⊎ (cmp h t ≡ Equal)
          → (one_of (is_eq (cmp h t)) ≡ 0) ⊎ (times cmp h os ≡ 0)
      by (inl other) = inl other
      by (inr tie) = inr (none tie)

  met_told : (h t o : X) (ts os : List X) → IsSorted cmp (t ∷ ts) → IsSorted cmp (o ∷ os)
      → Told h (differences cmp (keyless ts) (keyless (o ∷ os))) ts (o ∷ os)
      → Told h (differences cmp (keyless ts) (keyless os)) ts os
      → Told h (differences cmp (keyless (t ∷ ts)) (keyless os)) (t ∷ ts) os → (c : Ordering) → cmp t o ≡ c
      → Told h (differences_at c t o None (differences cmp (keyless ts) (keyless (o ∷ os)))
      (differences cmp (keyless ts) (keyless os)) (differences cmp (keyless (t ∷ ts)) (keyless os))) (t ∷ ts) (o ∷ os)
  met_told h t o ts os up down b a g Less is =
      extra_told h t (differences cmp (keyless ts) (keyless (o ∷ os))) ts (o ∷ os)
      (lone h t (o ∷ os) (λ tie. absent h t os o tie is down)) b
  met_told h t o ts os up down b a g Greater is =
      missing_told h o (differences cmp (keyless (t ∷ ts)) (keyless os)) (t ∷ ts) os
      (lone h o (t ∷ ts) (λ tie. absent h o ts t tie (back t o is) up)) g
  met_told h t o ts os up down b a g Equal is =
      let first = a.0 in
      let second = a.1 in
      let alike : cmp h t ≡ cmp h o =
      total.antisymm h t ∙ (ap ordering_reverse (total.congr t o h is) ∙ sym (total.antisymm h o)) in
      let same : one_of (is_eq (cmp h t)) ≡ one_of (is_eq (cmp h o)) =
      ap (λ (c : Ordering). one_of (is_eq c)) alike in
      let theirs = more (eq_by_cmp cmp h) t ts in
      let ours = more (eq_by_cmp cmp h) o os in
      (omega (arith, same, first, theirs, ours), omega (arith, same, second, theirs, ours))

  row_told : (h t : X) (ts : List X) → IsSorted cmp (t ∷ ts)
      → ((os : List X) → IsSorted cmp os → Told h (differences cmp (keyless ts) (keyless os)) ts os)
      → (os : List X) → IsSorted cmp os → Told h (differences cmp (keyless (t ∷ ts)) (keyless os)) (t ∷ ts) os
  row_told h t ts up behind [] down =
      extra_told h t (differences cmp (keyless ts) []) ts [] (inr refl) (behind [] down)
  row_told h t ts up behind (o ∷ os) down =
      let rest = rest_sorted o os down in
      met_told h t o ts os up down (behind (o ∷ os) down) (behind os rest) (row_told h t ts up behind os rest) (cmp t o)
      refl

  pub all_told : (h : X) (ts os : List X) → IsSorted cmp ts → IsSorted cmp os
      → Told h (differences cmp (keyless ts) (keyless os)) ts os
  all_told h [] os up down = all_missing h os
  all_told h (t ∷ ts) os up down =
      row_told h t ts up (λ os down. all_told h ts os (rest_sorted t ts up) down) os down

-- NO COLUMN IS TOLD

module _ {X : Type 0} (cmp : X → X → Ordering) where
  abbrev HasNoColumn : List (Difference X) → Type 0
  HasNoColumn ds = count_by is_column ds ≡ 0

  one_sided : (d : Difference X) (ds : List (Difference X)) → is_column d ≡ false → HasNoColumn ds
      → HasNoColumn (d ∷ ds)
  one_sided d ds none rest =
      let cons = more is_column d ds in
      let zero : one_of (is_column d) ≡ 0 = ap one_of none in
      omega (arith, cons, zero, rest)

  missing_alone : (os : List X) → HasNoColumn (differences cmp [] (keyless os))
  missing_alone [] = refl
  missing_alone (o ∷ os) = one_sided (Missing o) (differences cmp [] (keyless os)) refl (missing_alone os)

  met_alone : (t o : X) (below both above : List (Difference X)) → HasNoColumn below → HasNoColumn both
      → HasNoColumn above → (c : Ordering) → HasNoColumn (differences_at c t o None below both above)
  met_alone t o below both above b a g Less = one_sided (Extra t) below refl b
  met_alone t o below both above b a g Greater = one_sided (Missing o) above refl g
  met_alone t o below both above b a g Equal = a

  row_alone : (t : X) (ts : List X) → ((os : List X) → HasNoColumn (differences cmp (keyless ts) (keyless os)))
      → (os : List X) → HasNoColumn (differences cmp (keyless (t ∷ ts)) (keyless os))
  row_alone t ts behind [] = one_sided (Extra t) (differences cmp (keyless ts) []) refl (behind [])
  row_alone t ts behind (o ∷ os) =
      met_alone t o (differences cmp (keyless ts) (keyless (o ∷ os))) (differences cmp (keyless ts) (keyless os))
      (differences cmp (keyless (t ∷ ts)) (keyless os)) (behind (o ∷ os)) (behind os) (row_alone t ts behind os)
      (cmp t o)

  pub all_alone : (ts os : List X) → HasNoColumn (differences cmp (keyless ts) (keyless os))
  all_alone [] os = missing_alone os
  all_alone (t ∷ ts) os = row_alone t ts (all_alone ts) os
