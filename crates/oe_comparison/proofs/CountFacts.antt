-- There are as many differences as keys that differ.
use Rattle.std.proofs.Common.{◌≡◌, ◌≢◌, ◌⊎◌, inl, inr, ℕ, List, [], ◌∷◌, length, map, Option, None, Some}
use Rattle.std.proofs.Common.{refl, sym, ap, subst, ◌∙◌}
use Rattle.std.specs.List.{AllByRecursion}
use Rattle.std.specs.List.Sorted.{IsStrictlySortedBy}
use Rattle.std.specs.Ordering.{ordering_reverse}
use Rattle.std.specs.Cmp.{IsTotalOrder}
use Rattle.std.specs.FinMap.{IsAntisymmetric}
use Rattle.std.specs.declared.cmp.Ordering.{Ordering}
use Rattle.std.specs.declared.cmp.Ordering.TheVariants.{Less, Equal, Greater}
use Rattle.std.proofs.lemmas.Cmp.{tied_itself}
use Rattle.std.proofs.lemmas.List.{length-map}
use Rattle.oe_comparison.specs.Columns.{Other, first_other}
use Rattle.oe_comparison.specs.Differences.{Difference, Extra, Missing, Column, differences_at, differences}
use Rattle.oe_comparison.specs.Counts.{key_of, HasKey, HasRow, DifferAt, IsAmong, Ascend, AreSoMany}

abbrev Side : Type 0 → Type 0
Side K = List (K × List (List ℕ))

-- ---- one row more

key_by_row : {K : Type 0} (es : Side K) (k : K) (x : List (List ℕ)) → HasRow es k x → HasKey es k
key_by_row [] k x h = h
key_by_row (e ∷ es) k x (inl h) = inl h.0
key_by_row (e ∷ es) k x (inr h) = inr (key_by_row es k x h)

module _ {K : Type 0} (cmp : K → K → Ordering) (exact : IsAntisymmetric cmp) (total : IsTotalOrder cmp) where
  -- a key is below all keys of these rows
  abbrev Below : K → Side K → Type 0
  Below x es = AllByRecursion (λ y. cmp x y ≡ Less) (map (λ e. e.0) es)

  below_all : (x y : K) (es : Side K) → cmp x y ≡ Less → Below y es → Below x es
  below_all x y [] less h = tt
  below_all x y (e ∷ es) less h = (total.trans x y e.0 less h.0, below_all x y es less h.1)

  not_less : (x : K) → cmp x x ≡ Less → ⊥
  not_less x h =
      let clash : Less ≡ Equal = sym h ∙ tied_itself total x in
      cc

  -- so it is the key of none of them
  absent : (x k : K) (es : Side K) → Below x es → k ≡ x → HasKey es k → ⊥
  absent x k [] h is has = has
  absent x k (e ∷ es) h is (inl same) = not_less x (subst (λ (z : K). cmp x z ≡ Less) (sym same ∙ is) h.0)
  absent x k (e ∷ es) h is (inr has) = absent x k es h.1 is has

  back : (x y : K) → cmp x y ≡ Greater → cmp y x ≡ Less
  back x y h = total.antisymm y x ∙ ap ordering_reverse h

  first_below : (e : K × List (List ℕ)) (es : Side K) → Ascend cmp (e ∷ es) → Below e.0 es
  unfolding IsStrictlySortedBy
  first_below e es h = h.0

  rest_ascend : (e : K × List (List ℕ)) (es : Side K) → Ascend cmp (e ∷ es) → Ascend cmp es
  unfolding IsStrictlySortedBy
  rest_ascend e es h = h.1

  -- ---- the keys of differences ascend

  abbrev keys : List (Difference K) → List K
  keys ds = map key_of ds

  abbrev BelowKeys : K → List (Difference K) → Type 0
  BelowKeys x ds = AllByRecursion (λ y. cmp x y ≡ Less) (keys ds)

  missing_below : (x : K) (os : Side K) → Below x os → BelowKeys x (differences cmp [] os)
  missing_below x [] h = tt
  missing_below x (o ∷ os) h = (h.0, missing_below x os h.1)

  met_below : (x : K) (t o : K × List (List ℕ)) (c : Ordering) (d : Option Other)
      (below both above : List (Difference K)) → cmp x t.0 ≡ Less → cmp x o.0 ≡ Less
      → BelowKeys x below → BelowKeys x both → BelowKeys x above
      → BelowKeys x (differences_at c t.0 o.0 d below both above)
  met_below x t o Less d below both above h k b a g = (h, b)
  met_below x t o Greater d below both above h k b a g = (k, g)
  met_below x t o Equal (Some c) below both above h k b a g = (k, a)
  met_below x t o Equal None below both above h k b a g = a

  -- of the rows from t on, where this is so of those behind it
  row_below : (x : K) (t : K × List (List ℕ)) (ts : Side K) → cmp x t.0 ≡ Less
      → ((os : Side K) → Below x os → BelowKeys x (differences cmp ts os)) → (os : Side K) → Below x os
      → BelowKeys x (differences cmp (t ∷ ts) os)
  row_below x t ts h behind [] k = (h, behind [] tt)
  row_below x t ts h behind (o ∷ os) k =
      met_below x t o (cmp t.0 o.0) (first_other 0 t.1 o.1) _ _ _ h k.0 (behind (o ∷ os) k) (behind os k.1)
      (row_below x t ts h behind os k.1)

  all_below : (x : K) (ts os : Side K) → Below x ts → Below x os → BelowKeys x (differences cmp ts os)
  all_below x [] os h k = missing_below x os k
  all_below x (t ∷ ts) os h k = row_below x t ts h.0 (λ os k. all_below x ts os h.1 k) os k

  abbrev KeysAscend : List (Difference K) → Type 0
  KeysAscend ds = IsStrictlySortedBy cmp (keys ds)

  none_ascend : KeysAscend []
  unfolding IsStrictlySortedBy
  none_ascend = tt

  one_ascends : (d : Difference K) (ds : List (Difference K)) → BelowKeys (key_of d) ds → KeysAscend ds
      → KeysAscend (d ∷ ds)
  unfolding IsStrictlySortedBy
  one_ascends d ds h k = (h, k)

  missing_ascend : (os : Side K) → Ascend cmp os → KeysAscend (differences cmp [] os)
  missing_ascend [] h = none_ascend
  missing_ascend (o ∷ os) h =
      one_ascends (Missing o.0) (differences cmp [] os) (missing_below o.0 os (first_below o os h))
      (missing_ascend os (rest_ascend o os h))

  met_ascend : (t o : K × List (List ℕ)) (ts os : Side K) → Ascend cmp (t ∷ ts) → Ascend cmp (o ∷ os)
      → KeysAscend (differences cmp ts (o ∷ os)) → KeysAscend (differences cmp ts os)
      → KeysAscend (differences cmp (t ∷ ts) os) → (c : Ordering) → cmp t.0 o.0 ≡ c → (d : Option Other)
      → KeysAscend
      (differences_at c t.0 o.0 d (differences cmp ts (o ∷ os)) (differences cmp ts os) (differences cmp (t ∷ ts) os))
  met_ascend t o ts os h k b a g Less is d =
      one_ascends (Extra t.0) (differences cmp ts (o ∷ os))
      (all_below t.0 ts (o ∷ os) (first_below t ts h) (is, below_all t.0 o.0 os is (first_below o os k))) b
  met_ascend t o ts os h k b a g Greater is d =
      let less = back t.0 o.0 is in
      one_ascends (Missing o.0) (differences cmp (t ∷ ts) os)
      (all_below o.0 (t ∷ ts) os (less, below_all o.0 t.0 ts less (first_below t ts h)) (first_below o os k)) g
  met_ascend t o ts os h k b a g Equal is (Some c) =
      let same = exact t.0 o.0 is in
      one_ascends (Column o.0 c) (differences cmp ts os)
      (all_below o.0 ts os (subst (λ (z : K). Below z ts) same (first_below t ts h)) (first_below o os k)) a
  met_ascend t o ts os h k b a g Equal is None = a

  row_ascend : (t : K × List (List ℕ)) (ts : Side K) → Ascend cmp (t ∷ ts)
      → ((os : Side K) → Ascend cmp os → KeysAscend (differences cmp ts os)) → (os : Side K) → Ascend cmp os
      → KeysAscend (differences cmp (t ∷ ts) os)
  row_ascend t ts h behind [] k =
      one_ascends (Extra t.0) (differences cmp ts []) (all_below t.0 ts [] (first_below t ts h) tt) (behind [] k)
  row_ascend t ts h behind (o ∷ os) k =
      let rest = rest_ascend o os k in
      met_ascend t o ts os h k (behind (o ∷ os) k) (behind os rest) (row_ascend t ts h behind os rest)
      (cmp t.0 o.0) refl (first_other 0 t.1 o.1)

  all_ascend : (ts os : Side K) → Ascend cmp ts → Ascend cmp os → KeysAscend (differences cmp ts os)
  all_ascend [] os h k = missing_ascend os k
  all_ascend (t ∷ ts) os h k =
      row_ascend t ts h (λ os k. all_ascend ts os (rest_ascend t ts h) k) os k

  -- ---- they are the keys at which the sides differ

  -- a row more on a side, whose key the other side has not
  more_theirs : (t : K × List (List ℕ)) (ts os : Side K) (k : K) → (HasKey os t.0 → ⊥) → DifferAt ts os k
      → DifferAt (t ∷ ts) os k
  more_theirs t ts os k lacks (inl (has, lone)) = inl (inr has, lone)
  more_theirs t ts os k lacks (inr (inl (has, lone))) = inr (inl (has, both))
    where
      both : HasKey (t ∷ ts) k → ⊥
      both (inl is) = lacks (subst (HasKey os) is has)
      both (inr there) = lone there
  more_theirs t ts os k lacks (inr (inr d)) = inr (inr (record {
    their_columns = d.their_columns;
    our_columns = d.our_columns;
    their_row = inr d.their_row;
    our_row = d.our_row;
    differ = d.differ;
  }))

  more_ours : (o : K × List (List ℕ)) (ts os : Side K) (k : K) → (HasKey ts o.0 → ⊥) → DifferAt ts os k
      → DifferAt ts (o ∷ os) k
  more_ours o ts os k lacks (inl (has, lone)) = inl (has, both)
    where
      both : HasKey (o ∷ os) k → ⊥
      both (inl is) = lacks (subst (HasKey ts) is has)
      both (inr there) = lone there
  more_ours o ts os k lacks (inr (inl (has, lone))) = inr (inl (inr has, lone))
  more_ours o ts os k lacks (inr (inr d)) = inr (inr (record {
    their_columns = d.their_columns;
    our_columns = d.our_columns;
    their_row = d.their_row;
    our_row = inr d.our_row;
    differ = d.differ;
  }))

  -- a row more on both sides, of one key
  more_both : (t o : K × List (List ℕ)) (ts os : Side K) (k : K) → t.0 ≡ o.0 → (HasKey ts t.0 → ⊥)
      → (HasKey os o.0 → ⊥) → DifferAt ts os k → DifferAt (t ∷ ts) (o ∷ os) k
  more_both t o ts os k same lacks misses (inl (has, lone)) = inl (inr has, both)
    where
      both : HasKey (o ∷ os) k → ⊥
      both (inl is) = lacks (subst (HasKey ts) (is ∙ sym same) has)
      both (inr there) = lone there
  more_both t o ts os k same lacks misses (inr (inl (has, lone))) = inr (inl (inr has, both))
    where
      both : HasKey (t ∷ ts) k → ⊥
      both (inl is) = misses (subst (HasKey os) (is ∙ same) has)
      both (inr there) = lone there
  more_both t o ts os k same lacks misses (inr (inr d)) = inr (inr (record {
    their_columns = d.their_columns;
    our_columns = d.our_columns;
    their_row = inr d.their_row;
    our_row = inr d.our_row;
    differ = d.differ;
  }))

  some_differs : (c : Other) (o : Option Other) → o ≡ Some c → o ≢ None
  some_differs c o is none =
      let clash : Some c ≡ None = sym is ∙ none in
      cc

  abbrev Sound : Side K → Side K → Type 0
  Sound ts os = (k : K) → IsAmong (keys (differences cmp ts os)) k → DifferAt ts os k

  missing_sound : (os : Side K) → Sound [] os
  missing_sound [] k h = absurd h
  missing_sound (o ∷ os) k (inl is) = inr (inl (inl is, λ h. h))
  missing_sound (o ∷ os) k (inr h) = more_ours o [] os k (λ h. h) (missing_sound os k h)

  met_sound : (t o : K × List (List ℕ)) (ts os : Side K) → Ascend cmp (t ∷ ts) → Ascend cmp (o ∷ os)
      → Sound ts (o ∷ os) → Sound ts os → Sound (t ∷ ts) os → (c : Ordering) → cmp t.0 o.0 ≡ c → (d : Option Other)
      → first_other 0 t.1 o.1 ≡ d → (k : K)
      → IsAmong (keys
      (differences_at c t.0 o.0 d (differences cmp ts (o ∷ os)) (differences cmp ts os)
      (differences cmp (t ∷ ts) os))) k
      → DifferAt (t ∷ ts) (o ∷ os) k
  met_sound t o ts os h g b a n Less is d f k (inl same) =
      inl (inl same, absent t.0 k (o ∷ os) (is, below_all t.0 o.0 os is (first_below o os g)) same)
  met_sound t o ts os h g b a n Less is d f k (inr among) =
      more_theirs t ts (o ∷ os) k
      (absent t.0 t.0 (o ∷ os) (is, below_all t.0 o.0 os is (first_below o os g)) refl) (b k among)
  met_sound t o ts os h g b a n Greater is d f k (inl same) =
      let less = back t.0 o.0 is in
      inr (inl (inl same, absent o.0 k (t ∷ ts) (less, below_all o.0 t.0 ts less (first_below t ts h)) same))
  met_sound t o ts os h g b a n Greater is d f k (inr among) =
      let less = back t.0 o.0 is in
      more_ours o (t ∷ ts) os k
      (absent o.0 o.0 (t ∷ ts) (less, below_all o.0 t.0 ts less (first_below t ts h)) refl) (n k among)
  met_sound t o ts os h g b a n Equal is (Some c) f k (inl same) = inr (inr (record {
    their_columns = t.1;
    our_columns = o.1;
    their_row = inl (same ∙ sym (exact t.0 o.0 is), refl);
    our_row = inl (same, refl);
    differ = some_differs c (first_other 0 t.1 o.1) f;
  }))
  met_sound t o ts os h g b a n Equal is (Some c) f k (inr among) =
      more_both t o ts os k (exact t.0 o.0 is) (absent t.0 t.0 ts (first_below t ts h) refl)
      (absent o.0 o.0 os (first_below o os g) refl) (a k among)
  met_sound t o ts os h g b a n Equal is None f k among =
      more_both t o ts os k (exact t.0 o.0 is) (absent t.0 t.0 ts (first_below t ts h) refl)
      (absent o.0 o.0 os (first_below o os g) refl) (a k among)

  row_sound : (t : K × List (List ℕ)) (ts : Side K) → Ascend cmp (t ∷ ts)
      → ((os : Side K) → Ascend cmp os → Sound ts os) → (os : Side K) → Ascend cmp os → Sound (t ∷ ts) os
  row_sound t ts h behind [] g k (inl same) = inl (inl same, λ h. h)
  row_sound t ts h behind [] g k (inr among) = more_theirs t ts [] k (λ h. h) (behind [] g k among)
  row_sound t ts h behind (o ∷ os) g k among =
      let rest = rest_ascend o os g in
      met_sound t o ts os h g (behind (o ∷ os) g) (behind os rest) (row_sound t ts h behind os rest)
      (cmp t.0 o.0) refl (first_other 0 t.1 o.1) refl k among

  sound : (ts os : Side K) → Ascend cmp ts → Ascend cmp os → Sound ts os
  sound [] os h g = missing_sound os
  sound (t ∷ ts) os h g = row_sound t ts h (λ os g. sound ts os (rest_ascend t ts h) g) os g

  -- ---- each such key is among them

  abbrev Complete : Side K → Side K → Type 0
  Complete ts os = (k : K) → DifferAt ts os k → IsAmong (keys (differences cmp ts os)) k

  missing_among : (os : Side K) (k : K) → HasKey os k → IsAmong (keys (differences cmp [] os)) k
  missing_among [] k h = h
  missing_among (o ∷ os) k (inl is) = inl is
  missing_among (o ∷ os) k (inr h) = inr (missing_among os k h)

  missing_complete : (os : Side K) → Complete [] os
  missing_complete os k (inl d) = absurd d.0
  missing_complete os k (inr (inl d)) = missing_among os k d.0
  missing_complete os k (inr (inr d)) = absurd d.their_row

  -- what is left of a difference where the key is not that of the first row
  fewer_theirs : (t : K × List (List ℕ)) (ts os : Side K) (k : K) → (HasKey os t.0 → ⊥) → DifferAt (t ∷ ts) os k
      → (k ≡ t.0) ⊎ DifferAt ts os k
  fewer_theirs t ts os k lacks (inl (inl is, lone)) = inl is
  fewer_theirs t ts os k lacks (inl (inr has, lone)) = inr (inl (has, lone))
  fewer_theirs t ts os k lacks (inr (inl (has, lone))) = inr (inr (inl (has, λ h. lone (inr h))))
  fewer_theirs t ts os k lacks (inr (inr d)) = by_row d.their_row
    where
      by_row : HasRow (t ∷ ts) k d.their_columns → (k ≡ t.0) ⊎ DifferAt ts os k
      by_row (inl is) = inl is.0
      by_row (inr there) = inr (inr (inr (record {
        their_columns = d.their_columns;
        our_columns = d.our_columns;
        their_row = there;
        our_row = d.our_row;
        differ = d.differ;
      })))

  fewer_ours : (o : K × List (List ℕ)) (ts os : Side K) (k : K) → (HasKey ts o.0 → ⊥) → DifferAt ts (o ∷ os) k
      → (k ≡ o.0) ⊎ DifferAt ts os k
  fewer_ours o ts os k lacks (inl (has, lone)) = inr (inl (has, λ h. lone (inr h)))
  fewer_ours o ts os k lacks (inr (inl (inl is, lone))) = inl is
  fewer_ours o ts os k lacks (inr (inl (inr has, lone))) = inr (inr (inl (has, lone)))
  fewer_ours o ts os k lacks (inr (inr d)) = by_row d.our_row
    where
      by_row : HasRow (o ∷ os) k d.our_columns → (k ≡ o.0) ⊎ DifferAt ts os k
      by_row (inl is) = inl is.0
      by_row (inr there) = inr (inr (inr (record {
        their_columns = d.their_columns;
        our_columns = d.our_columns;
        their_row = d.their_row;
        our_row = there;
        differ = d.differ;
      })))

  -- the same of two rows of one key: the difference is there, or in a column of these two
  fewer_both : (t o : K × List (List ℕ)) (ts os : Side K) (k : K) → t.0 ≡ o.0 → (HasKey ts t.0 → ⊥)
      → (HasKey os o.0 → ⊥) → DifferAt (t ∷ ts) (o ∷ os) k
      → ((k ≡ o.0) × (first_other 0 t.1 o.1 ≢ None)) ⊎ DifferAt ts os k
  fewer_both t o ts os k same lacks misses (inl (inl is, lone)) = absurd (lone (inl (is ∙ same)))
  fewer_both t o ts os k same lacks misses (inl (inr has, lone)) = inr (inl (has, λ h. lone (inr h)))
  fewer_both t o ts os k same lacks misses (inr (inl (inl is, lone))) = absurd (lone (inl (is ∙ sym same)))
  fewer_both t o ts os k same lacks misses (inr (inl (inr has, lone))) = inr (inr (inl (has, λ h. lone (inr h))))
  fewer_both t o ts os k same lacks misses (inr (inr d)) = by_rows d.their_row d.our_row
    where
      by_rows : HasRow (t ∷ ts) k d.their_columns → HasRow (o ∷ os) k d.our_columns
          → ((k ≡ o.0) × (first_other 0 t.1 o.1 ≢ None)) ⊎ DifferAt ts os k
      by_rows (inl x) (inl y) = inl (
        y.0,
        subst (λ (z : List (List ℕ)). first_other 0 t.1 z ≢ None) y.1
            (subst (λ (z : List (List ℕ)). first_other 0 z d.our_columns ≢ None) x.1 d.differ),
      )
      by_rows (inl x) (inr there) =
          absurd (misses (subst (HasKey os) (x.0 ∙ same) (key_by_row os k d.our_columns there)))
      by_rows (inr there) (inl y) =
          absurd (lacks (subst (HasKey ts) (y.0 ∙ sym same) (key_by_row ts k d.their_columns there)))
      by_rows (inr here) (inr there) = inr (inr (inr (record {
        their_columns = d.their_columns;
        our_columns = d.our_columns;
        their_row = here;
        our_row = there;
        differ = d.differ;
      })))

  behind_first : (A B : Type 0) (k x : K) → (k ≡ x) ⊎ A → (A → B) → (k ≡ x) ⊎ B
  behind_first A B k x (inl is) f = inl is
  behind_first A B k x (inr a) f = inr (f a)

  met_complete : (t o : K × List (List ℕ)) (ts os : Side K) → Ascend cmp (t ∷ ts) → Ascend cmp (o ∷ os)
      → Complete ts (o ∷ os) → Complete ts os → Complete (t ∷ ts) os → (c : Ordering) → cmp t.0 o.0 ≡ c
      → (d : Option Other) → first_other 0 t.1 o.1 ≡ d → (k : K) → DifferAt (t ∷ ts) (o ∷ os) k
      → IsAmong (keys
      (differences_at c t.0 o.0 d (differences cmp ts (o ∷ os)) (differences cmp ts os)
      (differences cmp (t ∷ ts) os))) k
  met_complete t o ts os h g b a n Less is d f k differ =
      behind_first (DifferAt ts (o ∷ os) k) (IsAmong (keys (differences cmp ts (o ∷ os))) k) k t.0
      (fewer_theirs t ts (o ∷ os) k
      (absent t.0 t.0 (o ∷ os) (is, below_all t.0 o.0 os is (first_below o os g)) refl) differ) (b k)
  met_complete t o ts os h g b a n Greater is d f k differ =
      let less = back t.0 o.0 is in
      behind_first (DifferAt (t ∷ ts) os k) (IsAmong (keys (differences cmp (t ∷ ts) os)) k) k o.0
      (fewer_ours o (t ∷ ts) os k
      (absent o.0 o.0 (t ∷ ts) (less, below_all o.0 t.0 ts less (first_below t ts h)) refl) differ) (n k)
  met_complete t o ts os h g b a n Equal is (Some c) f k differ =
      at_both (fewer_both t o ts os k (exact t.0 o.0 is) (absent t.0 t.0 ts (first_below t ts h) refl)
      (absent o.0 o.0 os (first_below o os g) refl) differ)
    where
      at_both : ((k ≡ o.0) × (first_other 0 t.1 o.1 ≢ None)) ⊎ DifferAt ts os k
          → (k ≡ o.0) ⊎ IsAmong (keys (differences cmp ts os)) k
      at_both (inl x) = inl x.0
      at_both (inr there) = inr (a k there)
  met_complete t o ts os h g b a n Equal is None f k differ =
      at_both (fewer_both t o ts os k (exact t.0 o.0 is) (absent t.0 t.0 ts (first_below t ts h) refl)
      (absent o.0 o.0 os (first_below o os g) refl) differ)
    where
      at_both : ((k ≡ o.0) × (first_other 0 t.1 o.1 ≢ None)) ⊎ DifferAt ts os k
          → IsAmong (keys (differences cmp ts os)) k
      at_both (inl x) = absurd (x.1 f)
      at_both (inr there) = a k there

  row_complete : (t : K × List (List ℕ)) (ts : Side K) → Ascend cmp (t ∷ ts)
      → ((os : Side K) → Ascend cmp os → Complete ts os) → (os : Side K) → Ascend cmp os → Complete (t ∷ ts) os
  row_complete t ts h behind [] g k differ =
      behind_first (DifferAt ts [] k) (IsAmong (keys (differences cmp ts [])) k) k t.0
      (fewer_theirs t ts [] k (λ h. h) differ) (behind [] g k)
  row_complete t ts h behind (o ∷ os) g k differ =
      let rest = rest_ascend o os g in
      met_complete t o ts os h g (behind (o ∷ os) g) (behind os rest) (row_complete t ts h behind os rest)
      (cmp t.0 o.0) refl (first_other 0 t.1 o.1) refl k differ

  complete : (ts os : Side K) → Ascend cmp ts → Ascend cmp os → Complete ts os
  complete [] os h g = missing_complete os
  complete (t ∷ ts) os h g = row_complete t ts h (λ os g. complete ts os (rest_ascend t ts h) g) os g

  pub counted : (ts os : Side K) → Ascend cmp ts → Ascend cmp os
      → AreSoMany cmp (DifferAt ts os) (length (differences cmp ts os))
  counted ts os h g = record {
    keys = keys (differences cmp ts os);
    ascend = all_ascend ts os h g;
    exactly = λ k. (sound ts os h g k, complete ts os h g k);
    number = sym (length-map (differences cmp ts os) key_of);
  }
