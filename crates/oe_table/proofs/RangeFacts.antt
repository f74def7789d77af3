-- A range of the keys on shelves: what stands between two cuts.
use Rattle.std.proofs.Common.{◌≡◌, refl, sym, ◌∙◌, ap, Bool, true, false, not, ◌&&◌, cond, ℕ, suc, zero, ◌<◌, ◌≤◌, ◌+◌}
use Rattle.std.proofs.Common.{◌-◌, ◌==◌, min, add-one, List, [], ◌∷◌, ◌++◌, length, get_or, take, drop, arith}
use Rattle.std.specs.List.{AllByRecursion, filter}
use Rattle.std.specs.List.Sorted.{IsStrictlySortedBy}
use Rattle.std.specs.Map.{keys_of}
use Rattle.std.specs.Ordering.{is_lt, is_le, is_gt, ordering_reverse}
use Rattle.std.specs.BTreeMap.Range.{IsLeBy, range_contains, entries_between}
use Rattle.std.specs.declared.ops.Bound.TheVariants.{Included}
use Rattle.std.specs.Cmp.{IsTotalOrder, alike_right}
use Rattle.std.specs.declared.cmp.Ordering.{Ordering}
use Rattle.std.specs.declared.cmp.Ordering.TheVariants.{Less, Equal, Greater}
use Rattle.std.proofs.lemmas.List.{append-nil, append_assoc, take_all, length-take, drop-take, take_min, drop_min}
use Rattle.std.proofs.lemmas.List.Elements.{filter-append, filter_agree}
use borrow.Author.Tests.{eqb-true, eqb-false, eq-eqb, ltb-true, ltb-false}
use lib.Dec.{ltb}
use Rattle.oe_table.specs.Shelf.{whole_list, cut_between, front, lower, upper, IsAscending, AreShelves}
use Rattle.oe_table.proofs.ShelvesFacts.{all-weaker, keys-append, keys-from, shelf-ascends, shelf-keys}

take-nil : {A : Type 0} (n : ℕ) → take {A = A} n [] ≡ []
take-nil zero = refl
take-nil (suc n) = refl

drop-nil : {A : Type 0} (n : ℕ) → drop {A = A} n [] ≡ []
drop-nil zero = refl
drop-nil (suc n) = refl

module _ {K X : Type 0} (test : K → Bool) where
  filter-none : (s : List (K × X)) → AllByRecursion (λ k. test k ≡ false) (keys_of s) → filter (λ e. test e.0) s ≡ []
  filter-none [] h = refl
  filter-none (e ∷ s) h = rw h.0 (filter-none s h.1)

  filter-each : (s : List (K × X)) → AllByRecursion (λ k. test k ≡ true) (keys_of s) → filter (λ e. test e.0) s ≡ s
  filter-each [] h = refl
  filter-each (e ∷ s) h = rw h.0 (ap (λ t. e ∷ t) (filter-each s h.1))

-- a test that no later key passes, once one fails
abbrev Falls : {K X : Type 0} → (K → Bool) → List (K × X) → Type 0
Falls p [] = Unit {0}
Falls p (e ∷ s) = (p e.0 ≡ false → AllByRecursion (λ k. p k ≡ false) (keys_of s)) × Falls p s

front-step : (b : Bool) (n m : ℕ) → n ≤ m → cond b (suc n) 0 ≤ suc m
front-step true n m h = omega arith
front-step false n m h = omega arith

front-both : (b c : Bool) (n m : ℕ) → (b ≡ true → c ≡ true) → n ≤ m → cond b (suc n) 0 ≤ cond c (suc m) 0
front-both true true n m h le = omega arith
front-both true false n m h le = let t = h refl in cc
front-both false c n m h le = omega arith

neither : (b c : Bool) → c ≡ false → (b && c) ≡ false
neither true c f = f
neither false c f = refl

module _ {K X : Type 0} where
  front-none : (p : K → Bool) (s : List (K × X)) → AllByRecursion (λ k. p k ≡ false) (keys_of s)
      → front (λ e. p e.0) s ≡ 0
  front-none p [] h = refl
  front-none p (e ∷ s) h = rw h.0 refl

  front-each : (p : K → Bool) (s : List (K × X)) → AllByRecursion (λ k. p k ≡ true) (keys_of s)
      → front (λ e. p e.0) s ≡ length s
  front-each p [] h = refl
  front-each p (e ∷ s) h = rw h.0 (ap suc (front-each p s h.1))

  pub front-within : (p : K → Bool) (s : List (K × X)) → front (λ e. p e.0) s ≤ length s
  front-within p [] = omega arith
  front-within p (e ∷ s) = front-step (p e.0) (front (λ e. p e.0) s) (length s) (front-within p s)

  pub front-mono : (p q : K → Bool) → ((k : K) → p k ≡ true → q k ≡ true) → (s : List (K × X))
      → front (λ e. p e.0) s ≤ front (λ e. q e.0) s
  front-mono p q h [] = omega arith
  front-mono p q h (e ∷ s) = front-both (p e.0) (q e.0) (front (λ e. p e.0) s) (front (λ e. q e.0) s) (h e.0)
      (front-mono p q h s)

  -- what fails p and passes q stands between the fronts of the two
  window-step : (p q : K → Bool) (e : K × X) (s : List (K × X)) (b c : Bool) → p e.0 ≡ b → q e.0 ≡ c
      → (b ≡ true → c ≡ true) → (b ≡ false → AllByRecursion (λ k. p k ≡ false) (keys_of s))
      → (c ≡ false → AllByRecursion (λ k. q k ≡ false) (keys_of s))
      → filter (λ e. not (p e.0) && q e.0) s ≡ drop (front (λ e. p e.0) s) (take (front (λ e. q e.0) s) s)
      → cond (not b && c) (e ∷ filter (λ e. not (p e.0) && q e.0) s) (filter (λ e. not (p e.0) && q e.0) s) ≡ drop
      (cond b (suc (front (λ e. p e.0) s)) 0) (take (cond c (suc (front (λ e. q e.0) s)) 0) (e ∷ s))
  window-step p q e s true true pe qe h pn qn rest = rest
  window-step p q e s true false pe qe h pn qn rest = let t = h refl in cc
  window-step p q e s false true pe qe h pn qn rest = ap (λ t. e ∷ t) (rw (front-none p s (pn refl)) at rest)
  window-step p q e s false false pe qe h pn qn rest =
      filter-none (λ k. not (p k) && q k) s
      (all-weaker (λ k. q k ≡ false) (λ k. (not (p k) && q k) ≡ false) (λ k f. neither (not (p k)) (q k) f)
      (keys_of s) (qn refl))

  window : (p q : K → Bool) → ((k : K) → p k ≡ true → q k ≡ true) → (s : List (K × X)) → Falls p s → Falls q s
      → filter (λ e. not (p e.0) && q e.0) s ≡ drop (front (λ e. p e.0) s) (take (front (λ e. q e.0) s) s)
  window p q h [] fp fq = refl
  window p q h (e ∷ s) fp fq = window-step p q e s (p e.0) (q e.0) refl refl (h e.0) fp.0 fq.0
      (window p q h s fp.1 fq.1)

-- shelves: those before, those between and those after
module _ {K X : Type 0} (cmp : K → K → Ordering) (shelf_of : K → ℕ) (test : K → Bool) (a b : ℕ)
    (under : (k : K) → shelf_of k < a → test k ≡ false)
    (inner : (k : K) → a < shelf_of k → shelf_of k < b → test k ≡ true)
    (over : (k : K) → b < shelf_of k → test k ≡ false) where
  after : (m : ℕ) (ss : List (List (K × X))) → AreShelves cmp shelf_of m ss → b < m
      → filter (λ e. test e.0) (whole_list ss) ≡ []
  unfolding AreShelves
  after m [] h late = refl
  after m (s ∷ ss) h late =
      filter-append (λ e. test e.0) s (whole_list ss)
      ∙ ap (λ t. t ++ filter (λ e. test e.0) (whole_list ss))
      (filter-none test s (all-weaker (λ k. shelf_of k ≡ m) (λ k. test k ≡ false) (λ k e. over k (omega arith))
      (keys_of s) h.1))
      ∙ after (suc m) ss h.2 (omega arith)

  up_to : (m : ℕ) (ss : List (List (K × X))) (i j : ℕ) → AreShelves cmp shelf_of m ss → a < m → b ≡ m + i
      → filter (λ e. test e.0) (get_or ss i []) ≡ take j (get_or ss i [])
      → filter (λ e. test e.0) (whole_list ss) ≡ whole_list (take i ss) ++ take j (get_or ss i [])
  unfolding AreShelves
  up_to m [] i j h late is last = sym (ap (λ t. whole_list t ++ take j []) (take-nil i) ∙ take-nil j)
  up_to m (s ∷ ss) zero j h late is last =
      filter-append (λ e. test e.0) s (whole_list ss) ∙ ap (λ t. filter (λ e. test e.0) s ++ t)
      (after (suc m) ss h.2 (omega arith)) ∙ append-nil (filter (λ e. test e.0) s) ∙ last
  up_to m (s ∷ ss) (suc i) j h late is last =
      filter-append (λ e. test e.0) s (whole_list ss)
      ∙ ap (λ t. t ++ filter (λ e. test e.0) (whole_list ss))
      (filter-each test s (all-weaker (λ k. shelf_of k ≡ m) (λ k. test k ≡ true)
      (λ k e. inner k (omega arith) (omega arith)) (keys_of s) h.1))
      ∙ ap (λ t. s ++ t) (up_to (suc m) ss i j h.2 (omega arith) (omega arith) last)
      ∙ sym (append_assoc s (whole_list (take i ss)) (take j (get_or ss i [])))

  from : (m : ℕ) (ss : List (List (K × X))) (u w i j : ℕ) → AreShelves cmp shelf_of m ss → a ≡ m + u → b ≡ m + w → u < w
      → filter (λ e. test e.0) (get_or ss u []) ≡ drop i (get_or ss u [])
      → filter (λ e. test e.0) (get_or ss w []) ≡ take j (get_or ss w [])
      → filter (λ e. test e.0) (whole_list ss) ≡ drop i (get_or ss u [])
      ++ (whole_list (drop (suc u) (take w ss)) ++ take j (get_or ss w []))
  unfolding AreShelves
  from m ss u zero i j h isa isb less first last = absurd (omega arith)
  from m [] u (suc w) i j h isa isb less first last = sym (ap (λ t. t ++ take j []) (drop-nil i) ∙ take-nil j)
  from m (s ∷ ss) zero (suc w) i j h isa isb less first last =
      filter-append (λ e. test e.0) s (whole_list ss) ∙ ap (λ t. t ++ filter (λ e. test e.0) (whole_list ss)) first
      ∙ ap (λ t. drop i s ++ t) (up_to (suc m) ss w j h.2 (omega arith) (omega arith) last)
  from m (s ∷ ss) (suc u) (suc w) i j h isa isb less first last =
      filter-append (λ e. test e.0) s (whole_list ss)
      ∙ ap (λ t. t ++ filter (λ e. test e.0) (whole_list ss))
      (filter-none test s (all-weaker (λ k. shelf_of k ≡ m) (λ k. test k ≡ false) (λ k e. under k (omega arith))
      (keys_of s) h.1))
      ∙ from (suc m) ss u w i j h.2 (omega arith) (omega arith) (omega arith) first last

  within : (m : ℕ) (ss : List (List (K × X))) (u i j : ℕ) → AreShelves cmp shelf_of m ss → a ≡ m + u → b ≡ a
      → filter (λ e. test e.0) (get_or ss u []) ≡ drop i (take j (get_or ss u []))
      → filter (λ e. test e.0) (whole_list ss) ≡ drop i (take j (get_or ss u []))
  unfolding AreShelves
  within m [] u i j h isa isb one = one
  within m (s ∷ ss) zero i j h isa isb one =
      filter-append (λ e. test e.0) s (whole_list ss) ∙ ap (λ t. filter (λ e. test e.0) s ++ t)
      (after (suc m) ss h.2 (omega arith)) ∙ append-nil (filter (λ e. test e.0) s) ∙ one
  within m (s ∷ ss) (suc u) i j h isa isb one =
      filter-append (λ e. test e.0) s (whole_list ss)
      ∙ ap (λ t. t ++ filter (λ e. test e.0) (whole_list ss))
      (filter-none test s (all-weaker (λ k. shelf_of k ≡ m) (λ k. test k ≡ false) (λ k e. under k (omega arith))
      (keys_of s) h.1))
      ∙ within (suc m) ss u i j h.2 (omega arith) isb one

-- the tests of a range's ends
is_from : (r : Ordering) → is_le (ordering_reverse r) ≡ not (is_lt r)
is_from Less = refl
is_from Equal = refl
is_from Greater = refl

is_under : (r : Ordering) → not (is_le (ordering_reverse r)) ≡ is_lt r
is_under Less = refl
is_under Equal = refl
is_under Greater = refl

is_up_to : (r : Ordering) → not (is_lt (ordering_reverse r)) ≡ is_le r
is_up_to Less = refl
is_up_to Equal = refl
is_up_to Greater = refl

less-le : (r : Ordering) → is_lt r ≡ true → is_le r ≡ true
less-le Less e = refl
less-le Equal e = cc
less-le Greater e = cc

fails : (b c : Bool) → (c ≡ true → b ≡ true) → b ≡ false → c ≡ false
fails b true h e = let t = h refl in cc
fails b false h e = refl

module _ {K : Type 0} (cmp : K → K → Ordering) (total : IsTotalOrder cmp) where
  -- what is less than a key that is not greater is less
  below-le : (e y key : K) (r : Ordering) → cmp y key ≡ r → is_le r ≡ true → cmp e y ≡ Less → cmp e key ≡ Less
  below-le e y key Less is h less = total.trans e y key less is
  below-le e y key Equal is h less = sym (alike_right total y key e is) ∙ less
  below-le e y key Greater is h less = cc

  reversed : (a b : K) → cmp a b ≡ ordering_reverse (cmp b a)
  reversed a b = total.antisymm a b

-- where an end of a range is: a test that keys below pass too
pub record IsEnd {K : Type 0} (cmp : K → K → Ordering) (h : K → Bool) (key : K) : Type 0 where
  pub less : (k : K) → cmp k key ≡ Less → h k ≡ true
  pub more : (k : K) → cmp key k ≡ Less → h k ≡ false
  pub under : (e y : K) → cmp e y ≡ Less → h y ≡ true → h e ≡ true

module _ {K : Type 0} (cmp : K → K → Ordering) (total : IsTotalOrder cmp) where
  pub lower-end : (key : K) → IsEnd cmp (λ k. is_lt (cmp k key)) key
  lower-end key = record {
    less = λ k e. ap is_lt e;
    more = λ k e. ap is_lt (reversed cmp total k key ∙ ap ordering_reverse e);
    under = λ e y less h. ap is_lt (below-le cmp total e y key (cmp y key) refl (less-le (cmp y key) h) less);
  }

  pub upper-end : (key : K) → IsEnd cmp (λ k. is_le (cmp k key)) key
  upper-end key = record {
    less = λ k e. ap is_le e;
    more = λ k e. ap is_le (reversed cmp total k key ∙ ap ordering_reverse e);
    under = λ e y less h. ap is_le (below-le cmp total e y key (cmp y key) refl h less);
  }

all-fail : {K : Type 0} (cmp : K → K → Ordering) (h : K → Bool) (key e : K) → IsEnd cmp h key → h e ≡ false
    → (ks : List K) → AllByRecursion (λ y. cmp e y ≡ Less) ks → AllByRecursion (λ k. h k ≡ false) ks
all-fail cmp h key e end off [] up = tt
all-fail cmp h key e end off (k ∷ ks) up =
    (fails (h e) (h k) (end.under e k up.0) off, all-fail cmp h key e end off ks up.1)

falls : {K X : Type 0} (cmp : K → K → Ordering) (h : K → Bool) (key : K) → IsEnd cmp h key → (s : List (K × X))
    → IsAscending cmp s → Falls h s
unfolding IsStrictlySortedBy
falls cmp h key end [] up = tt
falls cmp h key end (e ∷ s) up = ((λ off. all-fail cmp h key e.0 end off (keys_of s) up.0), falls cmp h key end s up.1)

-- the slots between two ends are those between their cuts
module _ {K : Type 0} (cmp : K → K → Ordering) (shelf_of : K → ℕ)
    (ascends : (j k : K) → shelf_of j < shelf_of k → cmp j k ≡ Less)
    (low high : K → Bool) (start end : K) (is_start : IsEnd cmp low start) (is_end : IsEnd cmp high end) where
  below : (k : K) → shelf_of k < shelf_of start → (not (low k) && high k) ≡ false
  below k h = rw (is_start.less k (ascends k start h)) refl

  amid : (k : K) → shelf_of start < shelf_of k → shelf_of k < shelf_of end → (not (low k) && high k) ≡ true
  amid k h l = rw (is_start.more k (ascends start k h), is_end.less k (ascends k end l)) refl

  beyond : (k : K) → shelf_of end < shelf_of k → (not (low k) && high k) ≡ false
  beyond k h = neither (not (low k)) (high k) (is_end.more k (ascends end k h))

module _ {K X : Type 0} (cmp : K → K → Ordering) (shelf_of : K → ℕ)
    (ascends : (j k : K) → shelf_of j < shelf_of k → cmp j k ≡ Less)
    (low high : K → Bool) (start end : K) (is_start : IsEnd cmp low start) (is_end : IsEnd cmp high end)
    (goes_on : (k : K) → low k ≡ true → high k ≡ true) where
  one-shelf : (s : List (K × X)) → IsAscending cmp s
      → filter (λ e. not (low e.0) && high e.0) s ≡ drop (front (λ e. low e.0) s) (take (front (λ e. high e.0) s) s)
  one-shelf s up = window low high goes_on s (falls cmp low start is_start s up) (falls cmp high end is_end s up)

  first-shelf : (s : List (K × X)) → IsAscending cmp s → AllByRecursion (λ k. shelf_of k ≡ shelf_of start) (keys_of s)
      → shelf_of start < shelf_of end → filter (λ e. not (low e.0) && high e.0) s ≡ drop (front (λ e. low e.0) s) s
  first-shelf s up on less =
      one-shelf s up ∙ ap (λ n. drop (front (λ e. low e.0) s) (take n s))
      (front-each high s (all-weaker (λ k. shelf_of k ≡ shelf_of start) (λ k. high k ≡ true)
      (λ k e. is_end.less k (ascends k end (omega arith))) (keys_of s) on))
      ∙ ap (drop (front (λ e. low e.0) s)) (take_all (length s) s (omega arith))

  last-shelf : (s : List (K × X)) → IsAscending cmp s → AllByRecursion (λ k. shelf_of k ≡ shelf_of end) (keys_of s)
      → shelf_of start < shelf_of end → filter (λ e. not (low e.0) && high e.0) s ≡ take (front (λ e. high e.0) s) s
  last-shelf s up on less =
      one-shelf s up ∙ ap (λ n. drop n (take (front (λ e. high e.0) s) s))
      (front-none low s (all-weaker (λ k. shelf_of k ≡ shelf_of end) (λ k. low k ≡ false)
      (λ k e. is_start.more k (ascends start k (omega arith))) (keys_of s) on))

  cut-step : (ss : List (List (K × X))) → AreShelves cmp shelf_of 0 ss → shelf_of start ≤ shelf_of end → (same : Bool)
      → (shelf_of start == shelf_of end) ≡ same
      → filter (λ e. not (low e.0) && high e.0) (whole_list ss)
      ≡ cond same (drop (front (λ e. low e.0) (get_or ss (shelf_of start) []))
      (take (front (λ e. high e.0) (get_or ss (shelf_of end) [])) (get_or ss (shelf_of start) [])))
      (drop (front (λ e. low e.0) (get_or ss (shelf_of start) [])) (get_or ss (shelf_of start) [])
      ++ (whole_list (drop (shelf_of start + 1) (take (shelf_of end) ss))
      ++ take (front (λ e. high e.0) (get_or ss (shelf_of end) [])) (get_or ss (shelf_of end) [])))
  cut-step ss h le true same =
      let e : shelf_of start ≡ shelf_of end = eqb-true _ _ same in
      rw (← e) (within cmp shelf_of (λ k. not (low k) && high k) (shelf_of start) (shelf_of end)
      (below cmp shelf_of ascends low high start end is_start is_end)
      (amid cmp shelf_of ascends low high start end is_start is_end)
      (beyond cmp shelf_of ascends low high start end is_start is_end) 0 ss (shelf_of start) _ _ h (omega arith)
      (sym e) (one-shelf (get_or ss (shelf_of start) []) (shelf-ascends cmp shelf_of 0 ss (shelf_of start) h)))
  cut-step ss h le false same =
      let less : shelf_of start < shelf_of end = omega (arith, eqb-false _ _ same) in
      rw (add-one) (from cmp shelf_of (λ k. not (low k) && high k) (shelf_of start) (shelf_of end)
      (below cmp shelf_of ascends low high start end is_start is_end)
      (amid cmp shelf_of ascends low high start end is_start is_end)
      (beyond cmp shelf_of ascends low high start end is_start is_end) 0 ss (shelf_of start) (shelf_of end) _ _ h
      (omega arith) (omega arith) less
      (first-shelf (get_or ss (shelf_of start) []) (shelf-ascends cmp shelf_of 0 ss (shelf_of start) h)
      (shelf-keys cmp shelf_of 0 ss (shelf_of start) (shelf_of start) (omega arith) h) less)
      (last-shelf (get_or ss (shelf_of end) []) (shelf-ascends cmp shelf_of 0 ss (shelf_of end) h)
      (shelf-keys cmp shelf_of 0 ss (shelf_of end) (shelf_of end) (omega arith) h) less))

  pub cut-is : (ss : List (List (K × X))) → AreShelves cmp shelf_of 0 ss → shelf_of start ≤ shelf_of end
      → cut_between ss (shelf_of start) (front (λ e. low e.0) (get_or ss (shelf_of start) [])) (shelf_of end)
      (front (λ e. high e.0) (get_or ss (shelf_of end) [])) ≡ filter (λ e. not (low e.0) && high e.0) (whole_list ss)
  cut-is ss h le = sym (cut-step ss h le (shelf_of start == shelf_of end) refl)

gt-le : (r : Ordering) → is_gt r ≡ false → is_le r ≡ true
gt-le Less e = refl
gt-le Equal e = refl
gt-le Greater e = cc

is-less : (r : Ordering) → is_lt r ≡ true → r ≡ Less
is-less Less e = refl
is-less Equal e = cc
is-less Greater e = cc

not-under : (a b : ℕ) (t : Bool) → ltb b a ≡ t → (b < a → ⊥) → a ≤ b
not-under a b true e h = absurd (h (ltb-true b a e))
not-under a b false e h = ltb-false b a e

ascending-append : {K X : Type 0} (cmp : K → K → Ordering) (s t : List (K × X)) → IsAscending cmp s → IsAscending cmp t
    → AllByRecursion (λ k. AllByRecursion (λ y. cmp k y ≡ Less) (keys_of t)) (keys_of s) → IsAscending cmp (s ++ t)
unfolding IsStrictlySortedBy
ascending-append cmp [] t up next h = next
ascending-append cmp (e ∷ s) t up next h =
    (keys-append (λ y. cmp e.0 y ≡ Less) s t up.0 h.0, ascending-append cmp s t up.1 next h.1)

-- all keys ascend
pub joined-ascends : {K X : Type 0} (cmp : K → K → Ordering) (shelf_of : K → ℕ)
    → ((j k : K) → shelf_of j < shelf_of k → cmp j k ≡ Less) → (m : ℕ) (ss : List (List (K × X)))
    → AreShelves cmp shelf_of m ss → IsAscending cmp (whole_list ss)
unfolding AreShelves IsStrictlySortedBy
joined-ascends cmp shelf_of ascends m [] h = tt
joined-ascends cmp shelf_of ascends m (s ∷ ss) h =
    ascending-append cmp s (whole_list ss) h.0 (joined-ascends cmp shelf_of ascends (suc m) ss h.2)
    (all-weaker (λ k. shelf_of k ≡ m) (λ k. AllByRecursion (λ y. cmp k y ≡ Less) (keys_of (whole_list ss)))
    (λ k e. all-weaker (λ y. suc m ≤ shelf_of y) (λ y. cmp k y ≡ Less) (λ y l. ascends k y (omega arith))
    (keys_of (whole_list ss)) (keys-from cmp shelf_of (suc m) ss h.2)) (keys_of s) h.1)

module _ {K : Type 0} (cmp : K → K → Ordering) (total : IsTotalOrder cmp) (shelf_of : K → ℕ)
    (ascends : (j k : K) → shelf_of j < shelf_of k → cmp j k ≡ Less) (from to : K) (forward : IsLeBy cmp from to) where
  pub shelf-forward : shelf_of from ≤ shelf_of to
  shelf-forward = not-under (shelf_of from) (shelf_of to) (ltb (shelf_of to) (shelf_of from)) refl
      (λ l. let h : is_gt (cmp from to) ≡ true = ap is_gt
      (reversed cmp total from to ∙ ap ordering_reverse (ascends to from l)) in
      let g : is_gt (cmp from to) ≡ false = forward in cc)

  goes-before : (k : K) → is_lt (cmp k from) ≡ true → is_lt (cmp k to) ≡ true
  goes-before k h = ap is_lt
      (below-le cmp total k from to (cmp from to) refl (gt-le (cmp from to) forward) (is-less (cmp k from) h))

  goes-up_to : (k : K) → is_lt (cmp k from) ≡ true → is_le (cmp k to) ≡ true
  goes-up_to k h = less-le (cmp k to) (goes-before k h)

module _ {K X : Type 0} (cmp : K → K → Ordering) (total : IsTotalOrder cmp) (shelf_of : K → ℕ)
    (ascends : (j k : K) → shelf_of j < shelf_of k → cmp j k ≡ Less) (from to : K) (forward : IsLeBy cmp from to)
    (ss : List (List (K × X))) where
  pub cuts-up_to : (a b : ℕ) → a ≡ b → lower cmp (get_or ss a []) from ≤ upper cmp (get_or ss b []) to
  cuts-up_to a b e = rw e
      (front-mono (λ k. is_lt (cmp k from)) (λ k. is_le (cmp k to))
      (goes-up_to cmp total shelf_of ascends from to forward) (get_or ss b []))

  pub places-up_to : AreShelves cmp shelf_of 0 ss
      → cut_between ss (shelf_of from) (lower cmp (get_or ss (shelf_of from) []) from) (shelf_of to)
      (upper cmp (get_or ss (shelf_of to) []) to) ≡ entries_between cmp (Included from) (Included to) (whole_list ss)
  places-up_to h =
      cut-is cmp shelf_of ascends (λ k. is_lt (cmp k from)) (λ k. is_le (cmp k to)) from to (lower-end cmp total from)
      (upper-end cmp total to) (goes-up_to cmp total shelf_of ascends from to forward) ss h
      (shelf-forward cmp total shelf_of ascends from to forward)
      ∙ filter_agree (λ e. not (is_lt (cmp e.0 from)) && is_le (cmp e.0 to))
      (λ e. range_contains cmp (Included from) (Included to) e.0)
      (λ e. ap (λ b. b && is_le (cmp e.0 to)) (sym (is_from (cmp e.0 from))
      ∙ ap is_le (sym (reversed cmp total from e.0)))
      ∙ ap (λ b. is_le (cmp from e.0) && b) (sym (is_up_to (cmp e.0 to))
      ∙ ap (λ r. not (is_lt r)) (sym (reversed cmp total to e.0)))) (whole_list ss)

-- what the cuts of the code are
pub lower-within : {K X : Type 0} (cmp : K → K → Ordering) (s : List (K × X)) (key : K) → lower cmp s key ≤ length s
lower-within cmp s key = front-within (λ k. is_lt (cmp k key)) s

pub upper-within : {K X : Type 0} (cmp : K → K → Ordering) (s : List (K × X)) (key : K) → upper cmp s key ≤ length s
upper-within cmp s key = front-within (λ k. is_le (cmp k key)) s

pub between-is : {A : Type 0} (xs : List A) (a b e s : ℕ) → e ≡ min b (length xs) → s ≡ min a e
    → take (e - s) (drop s xs) ≡ drop a (take b xs)
between-is xs a b e s is_e is_s =
    let long : length (take b xs) ≡ e = length-take b xs ∙ sym is_e in
    let fits : s + (e - s) ≡ e = omega arith in
    sym (drop-take s (e - s) xs) ∙ ap (λ n. drop s (take n xs)) (fits ∙ is_e) ∙ ap (drop s) (take_min b xs)
    ∙ ap (λ n. drop n (take b xs)) (is_s ∙ ap (min a) (sym long)) ∙ drop_min a (take b xs)

pub shelf-within : {A : Type 0} (s : List A) (i j : ℕ) (f : List A) (g : List (List A)) (h : List A) → i ≤ j
    → f ≡ take (j - i) (drop i s) → g ≡ [] → h ≡ [] → f ++ (whole_list g ++ h) ≡ drop i (take j s)
shelf-within s i j f g h le first none after =
    let fits : i + (j - i) ≡ j = omega arith in
    ap (λ t. f ++ (whole_list t ++ h)) none ∙ ap (λ t. f ++ t) after ∙ append-nil f ∙ first
    ∙ sym (drop-take i (j - i) s)
    ∙ ap (λ n. drop i (take n s)) fits

pub cut-same : {A : Type 0} (ss : List (List A)) (a i b j : ℕ) (w : List A) → a ≡ b
    → w ≡ drop i (take j (get_or ss b [])) → w ≡ cut_between ss a i b j
cut-same ss a i b j w e is = rw (eq-eqb a b e) (is ∙ ap (λ n. drop i (take j (get_or ss n []))) (sym e))

apart-test : (a b : ℕ) (t : Bool) → (a == b) ≡ t → (a ≡ b → ⊥) → t ≡ false
apart-test a b true e h = absurd (h (eqb-true a b e))
apart-test a b false e h = refl

pub cut-apart : {A : Type 0} (ss : List (List A)) (a i b j : ℕ) (f : List A) (g : List (List A)) (h : List A)
    → (a ≡ b → ⊥) → f ≡ drop i (get_or ss a []) → g ≡ drop (a + 1) (take b ss) → h ≡ take j (get_or ss b [])
    → f ++ (whole_list g ++ h) ≡ cut_between ss a i b j
cut-apart ss a i b j f g h other first between last =
    rw (apart-test a b (a == b) refl other) (ap (λ t. t ++ (whole_list g ++ h)) first
    ∙ ap (λ t. drop i (get_or ss a []) ++ (whole_list t ++ h)) between
    ∙ ap (λ t. drop i (get_or ss a []) ++ (whole_list (drop (a + 1) (take b ss)) ++ t)) last)
