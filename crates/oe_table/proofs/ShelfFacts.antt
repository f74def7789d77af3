-- A shelf whose keys ascend: where a key stands, and where a new one goes.
use Rattle.std.proofs.Common.{◌≡◌, refl, sym, ◌∙◌, ap, subst, Bool, true, false, cond, ℕ, suc, zero, ◌<◌, ◌≤◌, ◌+◌, ◌-◌}
use Rattle.std.proofs.Common.{List, [], ◌∷◌, length, get_or, set, arith, Option, Some, None, is_some, Result, Ok, Err}
use Rattle.std.proofs.Common.{MatchResult}
use native.Mathlib.Numerals.{unary_clauses}
use Rattle.std.specs.Option.{IsSome}
use Rattle.std.specs.List.{AllByRecursion, HoldsAt, insert}
use Rattle.std.specs.List.Sorted.{IsStrictlySortedBy, IsPartitionPoint, IsSortedBy, IsBinarySearchResult}
use Rattle.std.specs.Map.{keys_of, lookup, set_value}
use Rattle.std.specs.BTreeMap.{is_at}
use Rattle.std.specs.Ordering.{is_lt, is_le, is_eq, ordering_reverse}
use Rattle.std.specs.declared.cmp.Ordering.{Ordering}
use Rattle.std.specs.declared.cmp.Ordering.TheVariants.{Less, Equal, Greater}
use Rattle.std.specs.Cmp.{IsTotalOrder, alike_right, tied_back, eq_by_cmp_equiv}
use Rattle.std.proofs.lemmas.List.Sorted.{searchable_from_sorted}
use Rattle.std.proofs.lemmas.Map.{lookup-insert, lookup-set_value, none_passes_from_lookup, keys-set_value}
use Rattle.oe_table.specs.Shelf.{lower, upper, IsAscending, StandsAt, IsFound, put_at}
use Rattle.oe_table.proofs.TableFacts.{tied}

all-at : {K X : Type 0} (P : K → Type 0) (s : List (K × X)) → AllByRecursion P (keys_of s) → (i : ℕ) (d : K × X)
    → i < length s → P (get_or s i d).0
all-at P [] h i d within = absurd (omega arith)
all-at P (e ∷ s) h zero d within = h.0
all-at P (e ∷ s) h (suc i) d within = all-at P s h.1 i d (omega arith)

pub all-insert : {K X : Type 0} (P : K → Type 0) (s : List (K × X)) (i : ℕ) (key : K) (v : X)
    → AllByRecursion P (keys_of s) → P key → AllByRecursion P (keys_of (insert s i (key, v)))
all-insert P s zero key v h p = (p, h)
all-insert P [] (suc i) key v h p = (p, tt)
all-insert P (e ∷ s) (suc i) key v h p = (h.0, all-insert P s i key v h.1 p)

set-step : {K X : Type 0} (b : Bool) (e f : K × X) (t u : List (K × X)) {found : Option X}
    → cond b (Some e.1) found ≡ None → (found ≡ None → u ≡ t) → cond b (f ∷ t) (e ∷ u) ≡ e ∷ t
set-step true e f t u none rest = cc
set-step false e f t u none rest = ap (λ l. e ∷ l) (rest none)

-- to write at a key that is not there changes nothing
pub set-none : {K X : Type 0} (test : K → Bool) (s : List (K × X)) (w : X) → lookup test s ≡ None
    → set_value test s w ≡ s
set-none test [] w none = refl
set-none test (e ∷ s) w none = set-step (test e.0) e (e.0, w) s (set_value test s w) none (set-none test s w)

pub found-later : {X : Type 0} (b : Bool) (x : X) (rest : Option X) → cond b (Some x) rest ≡ None → rest ≡ None
found-later true x rest e = cc
found-later false x rest e = e

pub lesser : (r : Ordering) → is_lt r ≡ true → r ≡ Less
lesser Less e = refl
lesser Equal e = cc
lesser Greater e = cc

module _ {K : Type 0} (cmp : K → K → Ordering) (total : IsTotalOrder cmp) where
  pub greater : (a b : K) → cmp a b ≡ Less → cmp b a ≡ Greater
  greater a b e = total.antisymm b a ∙ ap ordering_reverse e

  pub less : (a b : K) → cmp a b ≡ Greater → cmp b a ≡ Less
  less a b e = total.antisymm b a ∙ ap ordering_reverse e

  pub all-less : (a b : K) (ks : List K) → cmp a b ≡ Less → AllByRecursion (λ y. cmp b y ≡ Less) ks
      → AllByRecursion (λ y. cmp a y ≡ Less) ks
  all-less a b [] e h = tt
  all-less a b (k ∷ ks) e h = (total.trans a b k e h.0, all-less a b ks e h.1)

  tied-below : (a b : K) (ks : List K) → cmp a b ≡ Equal → AllByRecursion (λ y. cmp a y ≡ Less) ks
      → AllByRecursion (λ y. cmp b y ≡ Less) ks
  tied-below a b [] e h = tt
  tied-below a b (k ∷ ks) e h = (sym (total.congr a b k e) ∙ h.0, tied-below a b ks e h.1)

  same-test : (key x y : K) → is_eq (cmp key x) ≡ true → is_eq (cmp key y) ≡ is_eq (cmp x y)
  same-test key x y e = ap is_eq (total.congr key x y (tied (cmp key x) e))

module _ {K X : Type 0} (cmp : K → K → Ordering) (total : IsTotalOrder cmp) where
  -- an earlier key is less than the one that stands at i
  pub earlier : (e : K × X) (s : List (K × X)) (key : K) (i : ℕ) → AllByRecursion (λ y. cmp e.0 y ≡ Less) (keys_of s)
      → StandsAt cmp s key i → cmp e.0 key ≡ Less
  earlier e s key i h at = sym (alike_right total (get_or s i e).0 key e.0 (at.1 e))
      ∙ all-at (λ y. cmp e.0 y ≡ Less) s h i e at.0

  -- the slot at which a key stands is what stands at the key
  pub place-at : (s : List (K × X)) (key : K) (i : ℕ) → IsAscending cmp s → StandsAt cmp s key i → (d : K × X)
      → lookup (is_at (cmp key)) s ≡ Some (get_or s i d).1
  unfolding IsStrictlySortedBy
  place-at [] key i up at d = absurd (omega (arith, at.0))
  place-at (e ∷ s) key zero up at d = rw (tied_back total e.0 key (at.1 e)) refl
  place-at (e ∷ s) key (suc i) up at d =
      let there : StandsAt cmp s key i = (omega (arith, at.0), at.1) in
      rw (greater cmp total e.0 key (earlier e s key i up.0 there)) (place-at s key i up.1 there d)

  -- to write what the slot holds is to write at the key
  pub set-at : (s : List (K × X)) (key : K) (i : ℕ) → IsAscending cmp s → StandsAt cmp s key i → (d : K × X) (w : X)
      → set s i ((get_or s i d).0, w) ≡ set_value (is_at (cmp key)) s w
  unfolding IsStrictlySortedBy
  set-at [] key i up at d w = absurd (omega (arith, at.0))
  set-at (e ∷ s) key zero up at d w = rw (tied_back total e.0 key (at.1 e)) refl
  set-at (e ∷ s) key (suc i) up at d w =
      let there : StandsAt cmp s key i = (omega (arith, at.0), at.1) in
      rw (greater cmp total e.0 key (earlier e s key i up.0 there)) (ap (λ t. e ∷ t) (set-at s key i up.1 there d w))

  -- and as many keys are less as stand before it
  pub lower-at : (s : List (K × X)) (key : K) (i : ℕ) → IsAscending cmp s → StandsAt cmp s key i → i ≡ lower cmp s key
  unfolding IsStrictlySortedBy
  lower-at [] key i up at = absurd (omega (arith, at.0))
  lower-at (e ∷ s) key zero up at = let same : cmp e.0 key ≡ Equal = at.1 e in rw same refl
  lower-at (e ∷ s) key (suc i) up at =
      let there : StandsAt cmp s key i = (omega (arith, at.0), at.1) in
      rw (earlier e s key i up.0 there) (ap suc (lower-at s key i up.1 there))

  upper-none : (s : List (K × X)) (key : K) → AllByRecursion (λ y. cmp key y ≡ Less) (keys_of s) → upper cmp s key ≡ 0
  upper-none [] key h = refl
  upper-none (e ∷ s) key h = rw (greater cmp total key e.0 h.0) refl

  pub upper-at : (s : List (K × X)) (key : K) (i : ℕ) → IsAscending cmp s → StandsAt cmp s key i
      → i + 1 ≡ upper cmp s key
  unfolding IsStrictlySortedBy
  upper-at [] key i up at = absurd (omega (arith, at.0))
  upper-at (e ∷ s) key zero up at = let same : cmp e.0 key ≡ Equal = at.1 e in
      rw (same, upper-none s key (tied-below cmp total e.0 key (keys_of s) same up.0)) refl
  upper-at (e ∷ s) key (suc i) up at =
      let there : StandsAt cmp s key i = (omega (arith, at.0), at.1) in
      let rest : i + 1 ≡ upper cmp s key = upper-at s key i up.1 there in
      rw (earlier e s key i up.0 there) (omega (arith, rest))

  same-step : (e : K × X) (s : List (K × X)) (key : K) (r : Ordering) → cmp e.0 key ≡ r
      → lookup (is_at (cmp key)) (e ∷ s) ≡ None → lower cmp s key ≡ upper cmp s key
      → cond (is_lt r) (suc (lower cmp s key)) 0 ≡ cond (is_le r) (suc (upper cmp s key)) 0
  same-step e s key Less is none rest = ap suc rest
  same-step e s key Equal is none rest = let h = rw (tied_back total e.0 key is) at none in cc
  same-step e s key Greater is none rest = refl

  -- where the key does not stand, the two are the same
  pub lower-upper : (s : List (K × X)) (key : K) → lookup (is_at (cmp key)) s ≡ None → lower cmp s key ≡ upper cmp s key
  lower-upper [] key none = refl
  lower-upper (e ∷ s) key none =
      same-step e s key (cmp e.0 key) refl none
      (lower-upper s key (found-later (is_eq (cmp key e.0)) e.1 (lookup (is_at (cmp key)) s) none))

  -- between the lesser keys and the greater ones stands none
  pub between : (s : List (K × X)) (key : K) (i : ℕ) → i ≤ length s
      → IsPartitionPoint (λ e. cmp e.0 key ≡ Less) (λ e. cmp e.0 key ≡ Greater) s i
      → (i ≡ lower cmp s key) × (lookup (is_at (cmp key)) s ≡ None)
  between [] key zero within p = (refl, refl)
  between [] key (suc i) within p = absurd (omega arith)
  between (e ∷ s) key zero within p =
      let more : cmp e.0 key ≡ Greater = p.1 0 e (omega arith) (omega arith) in
      let rest = between s key zero (omega arith)
      ((λ k d l u. absurd (omega arith)), (λ k d l u. p.1 (suc k) d (omega arith) (omega arith))) in
      (rw more refl, rw (less cmp total e.0 key more) rest.1)
  between (e ∷ s) key (suc i) within p =
      let fewer : cmp e.0 key ≡ Less = p.0 0 e (omega arith) (omega arith) in
      let rest = between s key i (omega arith) (
        (λ k d l u. p.0 (suc k) d (omega arith) (omega arith)),
        (λ k d l u. p.1 (suc k) d (omega arith) (omega arith)),
      ) in
      (rw fewer (ap suc rest.0), rw (greater cmp total e.0 key fewer) rest.1)

  sorted : (s : List (K × X)) → IsAscending cmp s → IsSortedBy (λ a b. is_lt (cmp a.0 b.0)) s
  unfolding IsStrictlySortedBy
  sorted [] up k d l u = absurd (omega arith)
  sorted (e ∷ s) up zero d l u =
      rw (greater cmp total e.0 (get_or s 0 d).0 (all-at (λ y. cmp e.0 y ≡ Less) s up.0 0 d (omega arith))) refl
  sorted (e ∷ s) up (suc k) d l u = simp unary_clauses
      (simp unary_clauses at (sorted s up.1 k d (omega arith) (omega arith)))

  -- what a binary search ends as
  pub found : (s : List (K × X)) (key : K) (r : Result ℕ ℕ) → IsAscending cmp s
      → MatchResult r (λ i. i < length s) (λ i. i ≤ length s) → IsBinarySearchResult (λ e. cmp e.0 key) s r
      → IsFound cmp s key r
  found s key (Ok i) up within h = (within, h)
  found s key (Err i) up within h =
      let p = between s key i within (h (searchable_from_sorted total (λ e. e.0) s key (sorted s up))) in
      (within, p.0, p.1)

  -- all keys are less than one that is greater than the last
  pub past : (s : List (K × X)) (key : K) → IsAscending cmp s
      → ((n : ℕ) (d : K × X) → n + 1 ≡ length s → cmp (get_or s n d).0 key ≡ Less)
      → (length s ≡ lower cmp s key) × (lookup (is_at (cmp key)) s ≡ None)
  unfolding IsStrictlySortedBy
  past [] key up last = (refl, refl)
  past (e ∷ []) key up last = let first : cmp e.0 key ≡ Less = last 0 e (omega arith) in
      (rw first refl, rw (greater cmp total e.0 key first) refl)
  past (e ∷ f ∷ s) key up last =
      let rest = past (f ∷ s) key up.1 (λ n d is. last (suc n) d (omega arith)) in
      let first : cmp e.0 key ≡ Less = total.trans e.0 (get_or (f ∷ s) (length s) e).0 key
      (all-at (λ y. cmp e.0 y ≡ Less) (f ∷ s) up.0 (length s) e (omega arith))
      (last (suc (length s)) e (omega arith)) in
      (rw first (ap suc rest.0), rw (greater cmp total e.0 key first) rest.1)

  -- a new key goes before the first that is greater
  insert-step : (e : K × X) (s : List (K × X)) (key : K) (v : X) (r : Ordering) → cmp e.0 key ≡ r
      → IsAscending cmp (e ∷ s) → lookup (is_at (cmp key)) (e ∷ s) ≡ None
      → IsAscending cmp (insert s (lower cmp s key) (key, v))
      → IsAscending cmp (insert (e ∷ s) (cond (is_lt r) (suc (lower cmp s key)) 0) (key, v))
  unfolding IsStrictlySortedBy
  insert-step e s key v Less is up none rest =
      (all-insert (λ y. cmp e.0 y ≡ Less) s (lower cmp s key) key v up.0 is, rest)
  insert-step e s key v Equal is up none rest = let h = rw (tied_back total e.0 key is) at none in cc
  insert-step e s key v Greater is up none rest = let first = less cmp total e.0 key is in
      ((first, all-less cmp total key e.0 (keys_of s) first up.0), up)

  pub ascending-insert : (s : List (K × X)) (key : K) (v : X) → IsAscending cmp s → lookup (is_at (cmp key)) s ≡ None
      → IsAscending cmp (insert s (lower cmp s key) (key, v))
  unfolding IsStrictlySortedBy
  ascending-insert [] key v up none = (tt, tt)
  ascending-insert (e ∷ s) key v up none =
      insert-step e s key v (cmp e.0 key) refl up none
      (ascending-insert s key v up.1 (found-later (is_eq (cmp key e.0)) e.1 (lookup (is_at (cmp key)) s) none))

  -- at each key
  pub lookup-set : (s : List (K × X)) (key : K) (w : X) → IsSome (lookup (is_at (cmp key)) s) → (q : K)
      → lookup (is_at (cmp q)) (set_value (is_at (cmp key)) s w) ≡ cond (is_eq (cmp key q)) (Some w)
      (lookup (is_at (cmp q)) s)
  lookup-set s key w has q = lookup-set_value (eq_by_cmp_equiv total) (is_at (cmp key)) (same-test cmp total key) q w s
      has

  pub lookup-put : (s : List (K × X)) (key : K) (w : X) (q : K)
      → lookup (is_at (cmp q)) (put_at cmp s key w) ≡ cond (is_eq (cmp key q)) (Some w) (lookup (is_at (cmp q)) s)
  lookup-put s key w q =
      elim (lookup (is_at (cmp key)) s) as (λ o. lookup (is_at (cmp key)) s ≡ o
      → lookup (is_at (cmp q))
      (cond (is_some o) (set_value (is_at (cmp key)) s w) (insert s (lower cmp s key) (key, w))) ≡ cond
      (is_eq (cmp key q)) (Some w) (lookup (is_at (cmp q)) s)) [
        | Some x ↦ λ e. lookup-set s key w (rw e refl) q
        | None ↦ λ e. lookup-insert (eq_by_cmp_equiv total) key w q s (lower cmp s key)
            (none_passes_from_lookup (is_at (cmp key)) s e)
      ] refl

  pub ascending-put : (s : List (K × X)) (key : K) (w : X) → IsAscending cmp s → IsAscending cmp (put_at cmp s key w)
  ascending-put s key w up =
      elim (lookup (is_at (cmp key)) s) as (λ o. lookup (is_at (cmp key)) s ≡ o
      → IsAscending cmp (cond (is_some o) (set_value (is_at (cmp key)) s w) (insert s (lower cmp s key) (key, w)))) [
        | Some x ↦ λ e. subst (IsStrictlySortedBy cmp) (sym (keys-set_value (is_at (cmp key)) s w)) up
        | None ↦ λ e. ascending-insert s key w up e
      ] refl

  pub all-put : (P : K → Type 0) (s : List (K × X)) (key : K) (w : X) → AllByRecursion P (keys_of s) → P key
      → AllByRecursion P (keys_of (put_at cmp s key w))
  all-put P s key w h p =
      elim (lookup (is_at (cmp key)) s) as (λ o. AllByRecursion P
      (keys_of (cond (is_some o) (set_value (is_at (cmp key)) s w) (insert s (lower cmp s key) (key, w))))) [
        | Some x ↦ subst (AllByRecursion P) (sym (keys-set_value (is_at (cmp key)) s w)) h
        | None ↦ all-insert P s (lower cmp s key) key w h p
      ]

  -- what the functions of a shelf answer, where e is the slot that they read
  pub stands-answer : (s : List (K × X)) (e : K × X) (key : K) (i : ℕ) → i < length s → HoldsAt (λ y. e ≡ y) s i
      → (is_eq (cmp e.0 key) ≡ true → StandsAt cmp s key i) × (StandsAt cmp s key i → is_eq (cmp e.0 key) ≡ true)
  stands-answer s e key i within there = (
    (λ t. (within, λ d. ap (λ (y : K × X). cmp y.0 key) (sym (there d)) ∙ tied (cmp e.0 key) t)),
    (λ at. ap is_eq (ap (λ (y : K × X). cmp y.0 key) (there e) ∙ at.1 e)),
  )

  pub ends-answer : (s : List (K × X)) (e : K × X) (key : K) → IsAscending cmp s → HoldsAt (λ y. e ≡ y) s (length s - 1)
      → is_lt (cmp e.0 key) ≡ true → IsFound cmp s key (Err (length s))
  ends-answer s e key up there t =
      let p = past s key up
      (λ n d is. ap (λ (y : K × X). cmp y.0 key) (ap (λ i. get_or s i d) (omega arith) ∙ sym (there d))
      ∙ lesser (cmp e.0 key) t) in
      (omega arith, p.0, p.1)

  pub slot-answer : (s : List (K × X)) (e : K × X) (key : K) (i : ℕ) → IsAscending cmp s → StandsAt cmp s key i
      → HoldsAt (λ y. e ≡ y) s i → Some e.1 ≡ lookup (is_at (cmp key)) s
  slot-answer s e key i up at there = ap (λ (y : K × X). Some y.1) (there e) ∙ sym (place-at s key i up at e)

  pub set-answer : (s : List (K × X)) (e : K × X) (key : K) (i : ℕ) (w : X) → IsAscending cmp s → StandsAt cmp s key i
      → HoldsAt (λ y. e ≡ y) s i → set s i (e.0, w) ≡ set_value (is_at (cmp key)) s w
  set-answer s e key i w up at there = ap (λ (y : K × X). set s i (y.0, w)) (there e) ∙ set-at s key i up at e w

  pub put-answer : (s : List (K × X)) (e : K × X) (key : K) (i : ℕ) (w : X) → IsAscending cmp s → StandsAt cmp s key i
      → e ≡ get_or s i e → set s i (e.0, w) ≡ put_at cmp s key w
  put-answer s e key i w up at there =
      ap (λ (y : K × X). set s i (y.0, w)) there ∙ set-at s key i up at e w
      ∙ sym (ap (λ o. cond (is_some o) (set_value (is_at (cmp key)) s w) (insert s (lower cmp s key) (key, w)))
      (place-at s key i up at e))
