-- What is left of a shelf whose blanked key gives up its place.
use Rattle.std.proofs.Common.{◌≡◌, refl, sym, ◌∙◌, ap, subst, Bool, true, false, cond, ℕ, suc, zero, ◌<◌, ◌≤◌, ◌+◌}
use Rattle.std.proofs.Common.{List, [], ◌∷◌, length, get_or, set, take, arith, Option, Some, None}
use Rattle.std.specs.List.{AllByRecursion, remove}
use Rattle.std.specs.List.Sorted.{IsStrictlySortedBy}
use Rattle.std.specs.Map.{keys_of}
use Rattle.std.specs.Ordering.{is_eq}
use Rattle.std.specs.Cmp.{IsTotalOrder, tied_back, eq_by_cmp_equiv}
use Rattle.std.specs.FinMap.{IsAntisymmetric}
use Rattle.std.specs.declared.cmp.Ordering.{Ordering}
use Rattle.std.specs.declared.cmp.Ordering.TheVariants.{Less}
use Rattle.std.proofs.lemmas.List.{get_or-set_same, get_or-set_other}
use borrow.Author.Tests.{ltb-true, ltb-false}
use lib.Dec.{ltb}
use Rattle.oe_table.specs.Table.{place, live, left_of, rows_of, GivesUpPlace}
use Rattle.oe_table.specs.Shelf.{whole_list, IsAscending, StandsAt, AreShelves, without_blanked}
use Rattle.oe_table.proofs.TableFacts.{row_in, tied, same_rows}
use Rattle.oe_table.proofs.ShelfFacts.{greater, earlier, found-later}
use Rattle.oe_table.proofs.ShelvesFacts.{shelves-set, shelf-ascends, shelf-keys, slot-on_shelf, changes-on_shelf}
use Rattle.oe_table.proofs.WalkFacts.{place-below}

pub row_in-left_of : {R : Type 0} (p : Option (Option R)) → row_in (left_of p) ≡ row_in p
row_in-left_of None = refl
row_in-left_of (Some None) = refl
row_in-left_of (Some (Some row)) = refl

module _ {K R : Type 0} (cmp : K → K → Ordering) where
  skip : (b : Bool) (e : K × Option R) (s t : List (K × Option R)) → (b ≡ true → ⊥) → t ≡ s → cond b s (e ∷ t) ≡ e ∷ s
  skip true e s t apart rest = absurd (apart refl)
  skip false e s t apart rest = ap (λ l. e ∷ l) rest

  -- a key without a place gives up nothing
  pub nothing-left : (s : List (K × Option R)) (key : K) → place cmp s key ≡ None → without_blanked cmp s key ≡ s
  nothing-left [] key none = refl
  nothing-left ((k, None) ∷ s) key none =
      skip (is_eq (cmp key k)) (k, None) s (without_blanked cmp s key) (λ at. let h = rw at at none in cc)
      (nothing-left s key (found-later (is_eq (cmp key k)) None (place cmp s key) none))
  nothing-left ((k, Some row) ∷ s) key none =
      ap (λ l. (k, Some row) ∷ l)
      (nothing-left s key (found-later (is_eq (cmp key k)) (Some row) (place cmp s key) none))

  -- what is true of all keys is true of those that are left
  all-step : (P : K → Type 0) (b : Bool) (k : K) (s t : List (K × Option R)) → P k → AllByRecursion P (keys_of s)
      → AllByRecursion P (keys_of t) → AllByRecursion P (keys_of (cond b s ((k, None) ∷ t)))
  all-step P true k s t p h rest = h
  all-step P false k s t p h rest = (p, rest)

  pub all-left : (P : K → Type 0) (s : List (K × Option R)) (key : K) → AllByRecursion P (keys_of s)
      → AllByRecursion P (keys_of (without_blanked cmp s key))
  all-left P [] key h = h
  all-left P ((k, None) ∷ s) key h = all-step P (is_eq (cmp key k)) k s (without_blanked cmp s key) h.0 h.1
      (all-left P s key h.1)
  all-left P ((k, Some row) ∷ s) key h = (h.0, all-left P s key h.1)

  ascending-step : (b : Bool) (k : K) (s t : List (K × Option R)) → IsAscending cmp s
      → AllByRecursion (λ y. cmp k y ≡ Less) (keys_of t) → IsAscending cmp t
      → IsAscending cmp (cond b s ((k, None) ∷ t))
  unfolding IsStrictlySortedBy
  ascending-step true k s t up below rest = up
  ascending-step false k s t up below rest = (below, rest)

  pub ascending-left : (s : List (K × Option R)) (key : K) → IsAscending cmp s
      → IsAscending cmp (without_blanked cmp s key)
  unfolding IsStrictlySortedBy
  ascending-left [] key up = up
  ascending-left ((k, None) ∷ s) key up =
      ascending-step (is_eq (cmp key k)) k s (without_blanked cmp s key) up.1
      (all-left (λ y. cmp k y ≡ Less) s key up.0) (ascending-left s key up.1)
  ascending-left ((k, Some row) ∷ s) key up = (all-left (λ y. cmp k y ≡ Less) s key up.0, ascending-left s key up.1)

differs : {K : Type 0} (cmp : K → K → Ordering) → IsAntisymmetric cmp → (key q k : K) → is_eq (cmp key k) ≡ false
    → is_eq (cmp q k) ≡ true → is_eq (cmp key q) ≡ false
differs cmp exact key q k apart at = ap is_eq (ap (cmp key) (exact q k (tied (cmp q k) at))) ∙ apart

either : {A : Type 0} (b : Bool) (x : A) → x ≡ cond b x x
either true x = refl
either false x = refl

module _ {K R : Type 0} {cmp : K → K → Ordering} (total : IsTotalOrder cmp) (exact : IsAntisymmetric cmp) where
  -- the slot of a blanked key is taken out
  pub blank-left : (s : List (K × Option R)) (e : K × Option R) (key : K) (i : ℕ) → IsAscending cmp s
      → StandsAt cmp s key i → ((d : K × Option R) → e ≡ get_or s i d) → e.1 ≡ None
      → remove s i ≡ without_blanked cmp s key
  unfolding IsStrictlySortedBy
  blank-left [] e key i up at there blank = absurd (omega (arith, at.0))
  blank-left ((k, None) ∷ s) e key zero up at there blank = rw (tied_back total k key (at.1 e)) refl
  blank-left ((k, Some row) ∷ s) e key zero up at there blank =
      let h : e.1 ≡ Some row = ap (λ (y : K × Option R). y.1) (there e) in cc
  blank-left ((k, None) ∷ s) e key (suc i) up at there blank =
      let rest : StandsAt cmp s key i = (omega (arith, at.0), at.1) in
      rw (greater cmp total k key (earlier cmp total (k, None) s key i up.0 rest))
      (ap (λ l. (k, None) ∷ l) (blank-left s e key i up.1 rest there blank))
  blank-left ((k, Some row) ∷ s) e key (suc i) up at there blank =
      let rest : StandsAt cmp s key i = (omega (arith, at.0), at.1) in
      ap (λ l. (k, Some row) ∷ l) (blank-left s e key i up.1 rest there blank)

  -- and that of a row stays
  pub row-left : (s : List (K × Option R)) (e : K × Option R) (key : K) (i : ℕ) → IsAscending cmp s
      → StandsAt cmp s key i → ((d : K × Option R) → e ≡ get_or s i d) → (e.1 ≡ None → ⊥)
      → without_blanked cmp s key ≡ s
  unfolding IsStrictlySortedBy
  row-left [] e key i up at there row = absurd (omega (arith, at.0))
  row-left ((k, None) ∷ s) e key zero up at there row = absurd (row (ap (λ (y : K × Option R). y.1) (there e)))
  row-left ((k, Some x) ∷ s) e key zero up at there row =
      ap (λ l. (k, Some x) ∷ l)
      (nothing-left cmp s key (subst (λ y. place cmp s y ≡ None) (exact k key (at.1 e)) (place-below cmp k s up.0)))
  row-left ((k, None) ∷ s) e key (suc i) up at there row =
      let rest : StandsAt cmp s key i = (omega (arith, at.0), at.1) in
      rw (greater cmp total k key (earlier cmp total (k, None) s key i up.0 rest))
      (ap (λ l. (k, None) ∷ l) (row-left s e key i up.1 rest there row))
  row-left ((k, Some x) ∷ s) e key (suc i) up at there row =
      let rest : StandsAt cmp s key i = (omega (arith, at.0), at.1) in
      ap (λ l. (k, Some x) ∷ l) (row-left s e key i up.1 rest there row)

  -- the blanked key's own slot goes
  gone : (key q k : K) (s : List (K × Option R)) (b : Bool) → is_eq (cmp key q) ≡ b → is_eq (cmp key k) ≡ true
      → place cmp s k ≡ None
      → place cmp s q ≡ cond b (left_of (cond (is_eq (cmp key k)) (Some None) (place cmp s key)))
      (cond (is_eq (cmp q k)) (Some None) (place cmp s q))
  gone key q k s true at own none =
      let here : q ≡ k = sym (exact key q (tied (cmp key q) at)) ∙ exact key k (tied (cmp key k) own) in
      rw own (subst (λ y. place cmp s y ≡ None) (sym here) none)
  gone key q k s false at own none =
      let here : k ≡ key = sym (exact key k (tied (cmp key k) own)) in
      let other : is_eq (cmp q k) ≡ false = ap (λ y. is_eq (cmp q y)) here ∙ (eq_by_cmp_equiv total).symm q key ∙ at in
      rw other refl

  -- and another one stays
  stays : (key q k : K) (x : Option R) (old new : List (K × Option R)) (b : Bool) → is_eq (cmp q k) ≡ b
      → is_eq (cmp key k) ≡ false
      → place cmp new q ≡ cond (is_eq (cmp key q)) (left_of (place cmp old key)) (place cmp old q)
      → cond b (Some x) (place cmp new q) ≡ cond (is_eq (cmp key q))
      (left_of (cond (is_eq (cmp key k)) (Some x) (place cmp old key))) (cond b (Some x) (place cmp old q))
  stays key q k x old new true at apart rest = rw (differs cmp exact key q k apart at) refl
  stays key q k x old new false at apart rest = rw apart rest

  blank-step : (key q k : K) (s t : List (K × Option R)) (b : Bool) → is_eq (cmp key k) ≡ b → place cmp s k ≡ None
      → place cmp t q ≡ cond (is_eq (cmp key q)) (left_of (place cmp s key)) (place cmp s q)
      → place cmp (cond b s ((k, None) ∷ t)) q ≡ cond (is_eq (cmp key q)) (left_of (place cmp ((k, None) ∷ s) key))
      (place cmp ((k, None) ∷ s) q)
  blank-step key q k s t true own none rest = gone key q k s (is_eq (cmp key q)) refl own none
  blank-step key q k s t false own none rest = stays key q k None s t (is_eq (cmp q k)) refl own rest

  row-step : (key q k : K) (x : R) (s t : List (K × Option R)) (b : Bool) → is_eq (cmp key k) ≡ b → place cmp s k ≡ None
      → place cmp t q ≡ cond (is_eq (cmp key q)) (left_of (place cmp s key)) (place cmp s q)
      → place cmp ((k, Some x) ∷ t) q ≡ cond (is_eq (cmp key q)) (left_of (place cmp ((k, Some x) ∷ s) key))
      (place cmp ((k, Some x) ∷ s) q)
  row-step key q k x s t true own none rest = own-row (is_eq (cmp key q)) refl
    where
      own-row : (b : Bool) → is_eq (cmp key q) ≡ b
          → place cmp ((k, Some x) ∷ t) q ≡ cond b (left_of (place cmp ((k, Some x) ∷ s) key))
          (place cmp ((k, Some x) ∷ s) q)
      own-row true at =
          let here : q ≡ k = sym (exact key q (tied (cmp key q) at)) ∙ exact key k (tied (cmp key k) own) in
          let same : is_eq (cmp q k) ≡ true = ap (λ y. is_eq (cmp q y)) (sym here) ∙ (eq_by_cmp_equiv total).refl q in
          rw (same, own) refl
      own-row false at = ap (λ o. cond (is_eq (cmp q k)) (Some (Some x)) o) (rest ∙ rw at refl)
  row-step key q k x s t false own none rest = stays key q k (Some x) s t (is_eq (cmp q k)) refl own rest

  -- what stands at each key
  pub place-left : (s : List (K × Option R)) (key : K) → IsAscending cmp s → (q : K)
      → place cmp (without_blanked cmp s key) q ≡ cond (is_eq (cmp key q)) (left_of (place cmp s key)) (place cmp s q)
  unfolding IsStrictlySortedBy
  place-left [] key up q = either {A = Option (Option R)} (is_eq (cmp key q)) None
  place-left ((k, None) ∷ s) key up q =
      blank-step key q k s (without_blanked cmp s key) (is_eq (cmp key k)) refl (place-below cmp k s up.0)
      (place-left s key up.1 q)
  place-left ((k, Some x) ∷ s) key up q =
      row-step key q k x s (without_blanked cmp s key) (is_eq (cmp key k)) refl (place-below cmp k s up.0)
      (place-left s key up.1 q)

  given-up : (old new : List (K × Option R)) (key q : K) (b : Bool) → is_eq (cmp key q) ≡ b
      → place cmp new q ≡ cond b (left_of (place cmp old key)) (place cmp old q)
      → row_in (place cmp new q) ≡ row_in (place cmp old q)
  given-up old new key q true at is =
      ap row_in is ∙ row_in-left_of (place cmp old key) ∙ ap (λ y. row_in (place cmp old y))
      (exact key q (tied (cmp key q) at))
  given-up old new key q false at is = ap row_in is

  -- the rows are as before
  pub rows-left : (old new : List (K × Option R)) (key : K) → GivesUpPlace cmp old new key
      → rows_of cmp new ≡ rows_of cmp old
  rows-left old new key gives = same_rows total exact old new
      (λ q. given-up old new key q (is_eq (cmp key q)) refl (gives q))

  none-step : (t : List (K × Option R)) (key q : K) (b : Bool) → is_eq (cmp key q) ≡ b → place cmp t key ≡ None
      → place cmp t q ≡ cond b (left_of (place cmp t key)) (place cmp t q)
  none-step t key q true at none = let here : key ≡ q = exact key q (tied (cmp key q) at) in
      rw none (subst (λ y. place cmp t y ≡ None) here none)
  none-step t key q false at none = refl

  -- a key without a place gives up nothing
  pub none-left : (t : List (K × Option R)) (key : K) → place cmp t key ≡ None → GivesUpPlace cmp t t key
  none-left t key none q = none-step t key q (is_eq (cmp key q)) refl none

-- a shelf of the table, where s is the key's
module _ {K R : Type 0} {cmp : K → K → Ordering} (total : IsTotalOrder cmp) (exact : IsAntisymmetric cmp)
    (shelf_of : K → ℕ) where
  pub shelves-left : (ss : List (List (K × Option R))) (s new : List (K × Option R)) (key : K)
      → AreShelves cmp shelf_of 0 ss → ((d : List (K × Option R)) → s ≡ get_or ss (shelf_of key) d)
      → new ≡ without_blanked cmp s key
      → AreShelves cmp shelf_of 0 (set ss (shelf_of key) new)
  shelves-left ss s new key h there is =
      let up : IsAscending cmp s = rw (there []) (shelf-ascends cmp shelf_of 0 ss (shelf_of key) h) in
      let on : AllByRecursion (λ k. shelf_of k ≡ shelf_of key) (keys_of s) =
      rw (there []) (shelf-keys cmp shelf_of 0 ss (shelf_of key) (shelf_of key) (omega arith) h) in
      rw is (shelves-set cmp shelf_of 0 ss (shelf_of key) (shelf_of key) (without_blanked cmp s key) (omega arith) h
      (ascending-left cmp s key up) (all-left cmp (λ k. shelf_of k ≡ shelf_of key) s key on))

  pub places-left : (ss : List (List (K × Option R))) (s new : List (K × Option R)) (key : K)
      → AreShelves cmp shelf_of 0 ss → shelf_of key < length ss
      → ((d : List (K × Option R)) → s ≡ get_or ss (shelf_of key) d)
      → new ≡ without_blanked cmp s key → GivesUpPlace cmp (whole_list ss) (whole_list (set ss (shelf_of key) new)) key
  places-left ss s new key h within there is =
      let up : IsAscending cmp s = rw (there []) (shelf-ascends cmp shelf_of 0 ss (shelf_of key) h) in
      changes-on_shelf cmp shelf_of exact ss (set ss (shelf_of key) new) key (left_of (place cmp (whole_list ss) key)) h
      (shelves-left ss s new key h there is)
      (λ i other. get_or-set_other ss (shelf_of key) i new [] other)
      (λ q. rw (
        get_or-set_same ss (shelf_of key) new [] within,
        is,
        ← slot-on_shelf cmp shelf_of exact ss s key h
            there,
        ← there [],
      ) (place-left total exact s key up q))

take-nil : {A : Type 0} (n : ℕ) → take {A = A} n [] ≡ []
take-nil zero = refl
take-nil (suc n) = refl

-- the first slots of a shelf that have no row, where one slot is taken out
module _ {K R : Type 0} where
  fewer : (s : List (K × Option R)) (n i : ℕ) → i ≤ n → live (take (suc n) s) ≡ [] → live (take n (remove s i)) ≡ []
  fewer [] n zero le none = ap live (take-nil n)
  fewer [] n (suc i) le none = ap live (take-nil n)
  fewer ((key, None) ∷ s) n zero le none = none
  fewer ((key, Some row) ∷ s) n zero le none = cc
  fewer (e ∷ s) zero (suc i) le none = absurd (omega arith)
  fewer ((key, None) ∷ s) (suc n) (suc i) le none = fewer s n i (omega arith) none
  fewer ((key, Some row) ∷ s) (suc n) (suc i) le none = cc

  beyond : (s : List (K × Option R)) (n i : ℕ) → n ≤ i → take n (remove s i) ≡ take n s
  beyond s zero i le = refl
  beyond [] (suc n) zero le = refl
  beyond [] (suc n) (suc i) le = refl
  beyond (e ∷ s) (suc n) zero le = absurd (omega arith)
  beyond (e ∷ s) (suc n) (suc i) le = ap (λ t. e ∷ t) (beyond s n i (omega arith))

  pub none-remove : (s : List (K × Option R)) (n m i : ℕ) → (i < n → m + 1 ≡ n) → (n ≤ i → m ≡ n) → live (take n s) ≡ []
      → live (take m (remove s i)) ≡ []
  none-remove s n m i before after none = by (ltb i n) refl
    where
      by : (b : Bool) → ltb i n ≡ b → live (take m (remove s i)) ≡ []
      by true e =
          let is : m + 1 ≡ n = before (ltb-true i n e) in
          let next : n ≡ suc m = omega arith in
          fewer s m i (omega (arith, ltb-true i n e)) (rw (← next) none)
      by false e = let is : m ≡ n = after (ltb-false i n e) in rw is (ap live (beyond s n i (ltb-false i n e)) ∙ none)
