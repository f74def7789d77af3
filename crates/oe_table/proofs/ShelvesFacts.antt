-- Shelves one after another: what stands at a key is what stands there on its shelf.
use Rattle.std.proofs.Common.{◌≡◌, refl, sym, ◌∙◌, ap, subst, Bool, true, false, cond, ℕ, suc, zero, ◌<◌, ◌≤◌, ◌+◌}
use Rattle.std.proofs.Common.{List, [], ◌∷◌, ◌++◌, length, get_or, set, replicate, arith, Option, Some, None, Result}
use Rattle.std.proofs.Common.{Ok, Err}
use Rattle.std.specs.Option.{IsSome}
use Rattle.std.specs.Result.{OnOk, OnErr}
use Rattle.std.specs.List.{AllByRecursion}
use Rattle.std.specs.List.Sorted.{IsStrictlySortedBy}
use Rattle.std.specs.Map.{keys_of, lookup, set_value}
use Rattle.std.specs.BTreeMap.{is_at}
use Rattle.std.specs.Ordering.{is_eq}
use Rattle.std.specs.declared.cmp.Ordering.{Ordering}
use Rattle.std.specs.FinMap.{IsAntisymmetric, insert}
use Rattle.std.proofs.lemmas.List.{get_or-set_same, get_or-set_other, get_or_past, set-get_or, append_assoc}
use Rattle.std.proofs.lemmas.List.{replicate_more}
use Rattle.std.proofs.lemmas.Map.{keys-set_value}
use borrow.Author.Tests.{eqb-true, eqb-false}
use lib.Dec.{eqb}
use Rattle.std.specs.Cmp.{IsTotalOrder}
use Rattle.oe_table.specs.Table.{place, SetsPlace, rows_of}
use Rattle.oe_table.specs.Shelf.{whole_list, IsAscending, AreShelves, put_at}
use Rattle.oe_table.proofs.TableFacts.{tied, row_in, rows_of-set_place}
use Rattle.oe_table.proofs.ShelfFacts.{set-none, lookup-set, lookup-put, ascending-put, all-put}

module _ {K X : Type 0} where
  -- a key that is in neither of two lists, or only in one
  lookup-left : (test : K → Bool) (a b : List (K × X)) → lookup test b ≡ None → lookup test (a ++ b) ≡ lookup test a
  lookup-left test [] b none = none
  lookup-left test (e ∷ a) b none = ap (λ t. cond (test e.0) (Some e.1) t) (lookup-left test a b none)

  lookup-right : (test : K → Bool) (a b : List (K × X)) → AllByRecursion (λ k. test k ≡ false) (keys_of a)
      → lookup test (a ++ b) ≡ lookup test b
  lookup-right test [] b none = refl
  lookup-right test (e ∷ a) b none = rw none.0 (lookup-right test a b none.1)

  lookup-absent : (test : K → Bool) (a : List (K × X)) → AllByRecursion (λ k. test k ≡ false) (keys_of a)
      → lookup test a ≡ None
  lookup-absent test [] none = refl
  lookup-absent test (e ∷ a) none = rw none.0 (lookup-absent test a none.1)

  set-absent : (test : K → Bool) (a : List (K × X)) (w : X) → AllByRecursion (λ k. test k ≡ false) (keys_of a)
      → set_value test a w ≡ a
  set-absent test [] w none = refl
  set-absent test (e ∷ a) w none = rw none.0 (ap (λ t. e ∷ t) (set-absent test a w none.1))

  set-right : (test : K → Bool) (a b : List (K × X)) (w : X) → AllByRecursion (λ k. test k ≡ false) (keys_of a)
      → set_value test (a ++ b) w ≡ a ++ set_value test b w
  set-right test [] b w none = refl
  set-right test (e ∷ a) b w none = rw none.0 (ap (λ t. e ∷ t) (set-right test a b w none.1))

  set-step : (c : Bool) (e f : K × X) (a b r : List (K × X)) → r ≡ a ++ b → (t : List (K × X))
      → cond c (f ∷ (t ++ b)) (e ∷ r) ≡ cond c (f ∷ t) (e ∷ a) ++ b
  set-step true e f a b r is t = refl
  set-step false e f a b r is t = ap (λ l. e ∷ l) is

  set-left : (test : K → Bool) (a b : List (K × X)) (w : X) → AllByRecursion (λ k. test k ≡ false) (keys_of b)
      → set_value test (a ++ b) w ≡ set_value test a w ++ b
  set-left test [] b w none = set-absent test b w none
  set-left test (e ∷ a) b w none = set-step (test e.0) e (e.0, w) (set_value test a w) b (set_value test (a ++ b) w)
      (set-left test a b w none) a

  pub keys-append : (P : K → Type 0) (a b : List (K × X)) → AllByRecursion P (keys_of a) → AllByRecursion P (keys_of b)
      → AllByRecursion P (keys_of (a ++ b))
  keys-append P [] b h k = k
  keys-append P (e ∷ a) b h k = (h.0, keys-append P a b h.1 k)

pub all-weaker : {K : Type 0} (P Q : K → Type 0) → ((k : K) → P k → Q k) → (ks : List K) → AllByRecursion P ks
    → AllByRecursion Q ks
all-weaker P Q f [] h = tt
all-weaker P Q f (k ∷ ks) h = (f k h.0, all-weaker P Q f ks h.1)

differs : {K : Type 0} (cmp : K → K → Ordering) → IsAntisymmetric cmp → (q k : K) (b : Bool) → is_eq (cmp q k) ≡ b
    → (q ≡ k → ⊥) → b ≡ false
differs cmp exact q k true e apart = absurd (apart (exact q k (tied (cmp q k) e)))
differs cmp exact q k false e apart = refl

-- empty shelves at the end
module _ {A : Type 0} where
  pub joined-padded : (ss : List (List A)) (n : ℕ) → whole_list (ss ++ replicate n []) ≡ whole_list ss
  joined-padded [] zero = refl
  joined-padded [] (suc n) = joined-padded [] n
  joined-padded (s ∷ ss) n = ap (λ t. s ++ t) (joined-padded ss n)

  pub get_or-padded : (ss : List (List A)) (n i : ℕ) → get_or (ss ++ replicate n []) i [] ≡ get_or ss i []
  get_or-padded [] zero i = refl
  get_or-padded [] (suc n) zero = refl
  get_or-padded [] (suc n) (suc i) = get_or-padded [] n i
  get_or-padded (s ∷ ss) n zero = refl
  get_or-padded (s ∷ ss) n (suc i) = get_or-padded ss n i

module _ {K : Type 0} (cmp : K → K → Ordering) (shelf_of : K → ℕ) (exact : IsAntisymmetric cmp) where
  apart : (q k : K) → (shelf_of q ≡ shelf_of k → ⊥) → is_eq (cmp q k) ≡ false
  apart q k other = differs cmp exact q k (is_eq (cmp q k)) refl (λ e. other (ap shelf_of e))

  above : (q : K) (n : ℕ) (ks : List K) → shelf_of q < n → AllByRecursion (λ k. n ≤ shelf_of k) ks
      → AllByRecursion (λ k. is_at (cmp q) k ≡ false) ks
  above q n ks under h = all-weaker (λ k. n ≤ shelf_of k) (λ k. is_at (cmp q) k ≡ false)
      (λ k e. apart q k (λ same. omega arith)) ks h

  beside : (q : K) (n : ℕ) (ks : List K) → (shelf_of q ≡ n → ⊥) → AllByRecursion (λ k. shelf_of k ≡ n) ks
      → AllByRecursion (λ k. is_at (cmp q) k ≡ false) ks
  beside q n ks other h = all-weaker (λ k. shelf_of k ≡ n) (λ k. is_at (cmp q) k ≡ false)
      (λ k e. apart q k (λ same. other (same ∙ e))) ks h

pub no-shelves : {K X : Type 0} (cmp : K → K → Ordering) (shelf_of : K → ℕ) (ss : List (List (K × X))) → ss ≡ []
    → AreShelves cmp shelf_of 0 ss
unfolding AreShelves
no-shelves cmp shelf_of [] none = tt
no-shelves cmp shelf_of (s ∷ ss) none = cc

module _ {K X : Type 0} (cmp : K → K → Ordering) (shelf_of : K → ℕ) where
  pub shelves-padded : (m : ℕ) (ss : List (List (K × X))) (n : ℕ) → AreShelves cmp shelf_of m ss
      → AreShelves cmp shelf_of m (ss ++ replicate n [])
  unfolding AreShelves IsStrictlySortedBy
  shelves-padded m [] zero h = tt
  shelves-padded m [] (suc n) h = (tt, tt, shelves-padded (suc m) [] n tt)
  shelves-padded m (s ∷ ss) n h = (h.0, h.1, shelves-padded (suc m) ss n h.2)

  pub shelf-ascends : (m : ℕ) (ss : List (List (K × X))) (i : ℕ) → AreShelves cmp shelf_of m ss
      → IsAscending cmp (get_or ss i [])
  unfolding AreShelves IsStrictlySortedBy
  shelf-ascends m [] i h = tt
  shelf-ascends m (s ∷ ss) zero h = h.0
  shelf-ascends m (s ∷ ss) (suc i) h = shelf-ascends (suc m) ss i h.2

  pub shelf-keys : (m : ℕ) (ss : List (List (K × X))) (i n : ℕ) → n ≡ m + i → AreShelves cmp shelf_of m ss
      → AllByRecursion (λ k. shelf_of k ≡ n) (keys_of (get_or ss i []))
  unfolding AreShelves
  shelf-keys m [] i n is h = tt
  shelf-keys m (s ∷ ss) zero n is h = all-weaker (λ k. shelf_of k ≡ m) (λ k. shelf_of k ≡ n) (λ k e. omega arith)
      (keys_of s) h.1
  shelf-keys m (s ∷ ss) (suc i) n is h = shelf-keys (suc m) ss i n (omega arith) h.2

  -- a shelf is replaced
  pub shelves-set : (m : ℕ) (ss : List (List (K × X))) (i n : ℕ) (s : List (K × X)) → n ≡ m + i
      → AreShelves cmp shelf_of m ss → IsAscending cmp s → AllByRecursion (λ k. shelf_of k ≡ n) (keys_of s)
      → AreShelves cmp shelf_of m (set ss i s)
  unfolding AreShelves
  shelves-set m [] i n s is h up keys = tt
  shelves-set m (r ∷ ss) zero n s is h up keys =
      (up, all-weaker (λ k. shelf_of k ≡ n) (λ k. shelf_of k ≡ m) (λ k e. omega arith) (keys_of s) keys, h.2)
  shelves-set m (r ∷ ss) (suc i) n s is h up keys = (h.0, h.1, shelves-set (suc m) ss i n s (omega arith) h.2 up keys)

  -- the keys of shelves from the m-th on
  pub keys-from : (m : ℕ) (ss : List (List (K × X))) → AreShelves cmp shelf_of m ss
      → AllByRecursion (λ k. m ≤ shelf_of k) (keys_of (whole_list ss))
  unfolding AreShelves
  keys-from m [] h = tt
  keys-from m (s ∷ ss) h = keys-append (λ k. m ≤ shelf_of k) s (whole_list ss)
      (all-weaker (λ k. shelf_of k ≡ m) (λ k. m ≤ shelf_of k) (λ k e. omega arith) (keys_of s) h.1)
      (all-weaker (λ k. suc m ≤ shelf_of k) (λ k. m ≤ shelf_of k) (λ k e. omega arith) (keys_of (whole_list ss))
      (keys-from (suc m) ss h.2))

  module _ (exact : IsAntisymmetric cmp) where
    place-joined : (m : ℕ) (ss : List (List (K × X))) (key : K) (i : ℕ) → shelf_of key ≡ m + i
        → AreShelves cmp shelf_of m ss → lookup (is_at (cmp key)) (whole_list ss) ≡ lookup (is_at (cmp key))
        (get_or ss i [])
    unfolding AreShelves
    place-joined m [] key i is h = refl
    place-joined m (s ∷ ss) key zero is h =
        lookup-left (is_at (cmp key)) s (whole_list ss)
        (lookup-absent (is_at (cmp key)) (whole_list ss)
        (above cmp shelf_of exact key (suc m) (keys_of (whole_list ss)) (omega arith) (keys-from (suc m) ss h.2)))
    place-joined m (s ∷ ss) key (suc i) is h =
        lookup-right (is_at (cmp key)) s (whole_list ss)
        (beside cmp shelf_of exact key m (keys_of s) (λ same. omega arith) h.1)
        ∙ place-joined (suc m) ss key i (omega arith) h.2

    pub place-on_shelf : (ss : List (List (K × X))) (key : K) → AreShelves cmp shelf_of 0 ss
        → lookup (is_at (cmp key)) (whole_list ss) ≡ lookup (is_at (cmp key)) (get_or ss (shelf_of key) [])
    place-on_shelf ss key h = place-joined 0 ss key (shelf_of key) (omega arith) h

    -- to write on the key's shelf is to write among all
    set_value-joined : (m : ℕ) (ss : List (List (K × X))) (key : K) (i : ℕ) (w : X) → shelf_of key ≡ m + i
        → AreShelves cmp shelf_of m ss
        → whole_list (set ss i (set_value (is_at (cmp key)) (get_or ss i []) w))
        ≡ set_value (is_at (cmp key)) (whole_list ss) w
    unfolding AreShelves
    set_value-joined m [] key i w is h = refl
    set_value-joined m (s ∷ ss) key zero w is h =
        sym (set-left (is_at (cmp key)) s (whole_list ss) w
        (above cmp shelf_of exact key (suc m) (keys_of (whole_list ss)) (omega arith) (keys-from (suc m) ss h.2)))
    set_value-joined m (s ∷ ss) key (suc i) w is h =
        ap (λ t. s ++ t) (set_value-joined (suc m) ss key i w (omega arith) h.2)
        ∙ sym (set-right (is_at (cmp key)) s (whole_list ss) w
        (beside cmp shelf_of exact key m (keys_of s) (λ same. omega arith) h.1))

    pub set_value-on_shelf : (ss : List (List (K × X))) (key : K) (w : X) → AreShelves cmp shelf_of 0 ss
        → whole_list (set ss (shelf_of key) (set_value (is_at (cmp key)) (get_or ss (shelf_of key) []) w)) ≡ set_value
        (is_at (cmp key)) (whole_list ss) w
    set_value-on_shelf ss key w h = set_value-joined 0 ss key (shelf_of key) w (omega arith) h

    pub shelves-set_value : (ss : List (List (K × X))) (key : K) (i : ℕ) (w : X) → AreShelves cmp shelf_of 0 ss
        → AreShelves cmp shelf_of 0 (set ss i (set_value (is_at (cmp key)) (get_or ss i []) w))
    shelves-set_value ss key i w h =
        shelves-set 0 ss i i (set_value (is_at (cmp key)) (get_or ss i []) w) (omega arith) h
        (subst (IsStrictlySortedBy cmp) (sym (keys-set_value (is_at (cmp key)) (get_or ss i []) w))
        (shelf-ascends 0 ss i h))
        (subst (AllByRecursion (λ k. shelf_of k ≡ i)) (sym (keys-set_value (is_at (cmp key)) (get_or ss i []) w))
        (shelf-keys 0 ss i i (omega arith) h))

    -- what a change of the key's shelf says of each key
    at-key : (old new : List (List (K × X))) (key q : K) (o : Option X) (b : Bool) → is_eq (cmp key q) ≡ b
        → AreShelves cmp shelf_of 0 old → AreShelves cmp shelf_of 0 new
        → ((i : ℕ) → (i ≡ shelf_of key → ⊥) → get_or new i [] ≡ get_or old i [])
        → ((x : K) → lookup (is_at (cmp x)) (get_or new (shelf_of key) []) ≡ cond (is_eq (cmp key x)) o
        (lookup (is_at (cmp x)) (get_or old (shelf_of key) [])))
        → (same : Bool) → eqb (shelf_of q) (shelf_of key) ≡ same
        → lookup (is_at (cmp q)) (whole_list new) ≡ cond b o (lookup (is_at (cmp q)) (whole_list old))
    at-key old new key q o b at before after rest here true same =
        let e : shelf_of q ≡ shelf_of key = eqb-true _ _ same in
        place-on_shelf new q after ∙ ap (λ i. lookup (is_at (cmp q)) (get_or new i [])) e ∙ here q
        ∙ ap (λ t. cond (is_eq (cmp key q)) o t)
        (ap (λ i. lookup (is_at (cmp q)) (get_or old i [])) (sym e) ∙ sym (place-on_shelf old q before))
        ∙ ap (λ c. cond c o (lookup (is_at (cmp q)) (whole_list old))) at
    at-key old new key q o b at before after rest here false same =
        let other : shelf_of key ≡ shelf_of q → ⊥ = λ e. eqb-false _ _ same (sym e) in
        let e : b ≡ false = sym at ∙ apart cmp shelf_of exact key q other in
        rw e (place-on_shelf new q after ∙ ap (lookup (is_at (cmp q))) (rest (shelf_of q) (λ s. other (sym s)))
        ∙ sym (place-on_shelf old q before))

    pub changes-on_shelf : (old new : List (List (K × X))) (key : K) (o : Option X) → AreShelves cmp shelf_of 0 old
        → AreShelves cmp shelf_of 0 new
        → ((i : ℕ) → (i ≡ shelf_of key → ⊥) → get_or new i [] ≡ get_or old i [])
        → ((x : K) → lookup (is_at (cmp x)) (get_or new (shelf_of key) []) ≡ cond (is_eq (cmp key x)) o
        (lookup (is_at (cmp x)) (get_or old (shelf_of key) [])))
        → (q : K) → lookup (is_at (cmp q)) (whole_list new) ≡ cond (is_eq (cmp key q)) o
        (lookup (is_at (cmp q)) (whole_list old))
    changes-on_shelf old new key o before after rest here q = at-key old new key q o (is_eq (cmp key q)) refl before
        after rest here (eqb (shelf_of q) (shelf_of key)) refl

    pub past-shelves : (ss : List (List (K × X))) (key : K) → AreShelves cmp shelf_of 0 ss → length ss ≤ shelf_of key
        → lookup (is_at (cmp key)) (whole_list ss) ≡ None
    past-shelves ss key h under = place-on_shelf ss key h ∙ ap (lookup (is_at (cmp key)))
        (get_or_past ss (shelf_of key) [] under)

    -- what the functions of a table answer, where s is the shelf that they read
    pub slot-on_shelf : (ss : List (List (K × X))) (s : List (K × X)) (key : K) → AreShelves cmp shelf_of 0 ss
        → ((d : List (K × X)) → s ≡ get_or ss (shelf_of key) d)
        → lookup (is_at (cmp key)) s ≡ lookup (is_at (cmp key)) (whole_list ss)
    slot-on_shelf ss s key h there = ap (lookup (is_at (cmp key))) (there []) ∙ sym (place-on_shelf ss key h)

    pub written-on_shelf : (ss : List (List (K × X))) (s new : List (K × X)) (key : K) (w : X)
        → AreShelves cmp shelf_of 0 ss → ((d : List (K × X)) → s ≡ get_or ss (shelf_of key) d)
        → new ≡ set_value (is_at (cmp key)) s w
        → whole_list (set ss (shelf_of key) new) ≡ set_value (is_at (cmp key)) (whole_list ss) w
    written-on_shelf ss s new key w h there is = ap (λ t. whole_list (set ss (shelf_of key) t))
        (is ∙ ap (λ t. set_value (is_at (cmp key)) t w) (there [])) ∙ set_value-on_shelf ss key w h

    pub lent-on_shelf : (ss : List (List (K × X))) (s new : List (K × X)) (key : K) (i : ℕ) (w : X)
        → AreShelves cmp shelf_of 0 ss → ((d : List (K × X)) → s ≡ get_or ss i d)
        → new ≡ set_value (is_at (cmp key)) s w
        → AreShelves cmp shelf_of 0 (set ss i new)
    lent-on_shelf ss s new key i w h there is =
        subst (λ t. AreShelves cmp shelf_of 0 (set ss i t))
        (sym (is ∙ ap (λ t. set_value (is_at (cmp key)) t w) (there []))) (shelves-set_value ss key i w h)

    pub same-shelf : (ss : List (List (K × X))) (s new : List (K × X)) (i : ℕ)
        → ((d : List (K × X)) → s ≡ get_or ss i d) → new ≡ s → set ss i new ≡ ss
    same-shelf ss s new i there is = ap (λ t. set ss i t) (is ∙ there []) ∙ set-get_or ss i []

    pub none-written : (t : List (K × X)) (key : K) (w : X) → lookup (is_at (cmp key)) t ≡ None
        → t ≡ set_value (is_at (cmp key)) t w
    none-written t key w none = sym (set-none (is_at (cmp key)) t w none)

-- a place that was written
pub has_place : {R : Type 0} (o : Option (Option R)) → IsSome (row_in o) → IsSome o
has_place None h = h
has_place (Some p) h = refl

pub sets_place-written : {K R : Type 0} {cmp : K → K → Ordering} (total : IsTotalOrder cmp)
    (old new : List (K × Option R)) (key : K) (w p : Option R)
    → new ≡ set_value (is_at (cmp key)) old w → w ≡ p → IsSome (place cmp old key) → SetsPlace cmp old new key p
sets_place-written {cmp = cmp} total old new key w p is same has q =
    rw (is, same) (lookup-set cmp total old key p has q)

-- a row that was put, or refused
module _ {K X : Type 0} {cmp : K → K → Ordering} (total : IsTotalOrder cmp) (exact : IsAntisymmetric cmp)
    (shelf_of : K → ℕ) where
  shelves-put : (ss : List (List (K × X))) (s new : List (K × X)) (key : K) (w : X) → AreShelves cmp shelf_of 0 ss
      → ((d : List (K × X)) → s ≡ get_or ss (shelf_of key) d) → new ≡ put_at cmp s key w
      → AreShelves cmp shelf_of 0 (set ss (shelf_of key) new)
  shelves-put ss s new key w h there is =
      let up : IsAscending cmp s = rw (there []) (shelf-ascends cmp shelf_of 0 ss (shelf_of key) h) in
      let on : AllByRecursion (λ k. shelf_of k ≡ shelf_of key) (keys_of s) =
      rw (there []) (shelf-keys cmp shelf_of 0 ss (shelf_of key) (shelf_of key) (omega arith) h) in
      rw is (shelves-set cmp shelf_of 0 ss (shelf_of key) (shelf_of key) (put_at cmp s key w) (omega arith) h
      (ascending-put cmp total s key w up) (all-put cmp total (λ k. shelf_of k ≡ shelf_of key) s key w on refl))

  pub put-kept : {A E : Type 0} (r : Result A E) (ss : List (List (K × X))) (s new : List (K × X)) (key : K) (w : X)
      → AreShelves cmp shelf_of 0 ss → ((d : List (K × X)) → s ≡ get_or ss (shelf_of key) d)
      → OnOk r (new ≡ put_at cmp s key w) → OnErr r (new ≡ s) → AreShelves cmp shelf_of 0 (set ss (shelf_of key) new)
  put-kept (Ok x) ss s new key w h there ok err = shelves-put ss s new key w h there ok
  put-kept (Err e) ss s new key w h there ok err = rw (same-shelf cmp shelf_of exact ss s new (shelf_of key) there err)
      h

  pub put-places : {A E : Type 0} (r : Result A E) (ss : List (List (K × X))) (s new : List (K × X)) (key : K) (w : X)
      → AreShelves cmp shelf_of 0 ss → shelf_of key < length ss → ((d : List (K × X)) → s ≡ get_or ss (shelf_of key) d)
      → OnOk r (new ≡ put_at cmp s key w)
      → OnOk r ((q : K) → lookup (is_at (cmp q)) (whole_list (set ss (shelf_of key) new)) ≡ cond (is_eq (cmp key q))
      (Some w) (lookup (is_at (cmp q)) (whole_list ss)))
  put-places (Ok x) ss s new key w h within there ok =
      changes-on_shelf cmp shelf_of exact ss (set ss (shelf_of key) new) key (Some w) h
      (shelves-put ss s new key w h there ok)
      (λ i other. get_or-set_other ss (shelf_of key) i new [] other)
      (λ q. rw (get_or-set_same ss (shelf_of key) new [] within, ok, ← there []) (lookup-put cmp total s key w q))
  put-places (Err e) ss s new key w h within there ok = ok

  pub put-same : {A E : Type 0} (r : Result A E) (ss : List (List (K × X))) (s new : List (K × X)) (key : K)
      → ((d : List (K × X)) → s ≡ get_or ss (shelf_of key) d) → OnErr r (new ≡ s)
      → OnErr r (whole_list (set ss (shelf_of key) new) ≡ whole_list ss)
  put-same (Ok x) ss s new key there err = err
  put-same (Err e) ss s new key there err = ap whole_list
      (same-shelf cmp shelf_of exact ss s new (shelf_of key) there err)

  pub put-no_place : {A E : Type 0} (r : Result A E) (ss : List (List (K × X))) (s : List (K × X)) (key : K)
      → AreShelves cmp shelf_of 0 ss → ((d : List (K × X)) → s ≡ get_or ss (shelf_of key) d)
      → OnErr r (lookup (is_at (cmp key)) s ≡ None) → OnErr r (lookup (is_at (cmp key)) (whole_list ss) ≡ None)
  put-no_place (Ok x) ss s key h there none = none
  put-no_place (Err e) ss s key h there none = sym (slot-on_shelf cmp shelf_of exact ss s key h there) ∙ none

pub put-rows : {K R A E : Type 0} {cmp : K → K → Ordering} (total : IsTotalOrder cmp) (exact : IsAntisymmetric cmp)
    (r : Result A E) (old new : List (K × Option R)) (key : K) (row : R)
    → OnOk r (SetsPlace cmp old new key (Some row)) → OnOk r (rows_of cmp new ≡ insert (rows_of cmp old) key row)
put-rows total exact (Ok x) old new key row sets = rows_of-set_place total exact old new key (Some row) sets
put-rows total exact (Err e) old new key row sets = sets

-- empty shelves were put after the others
pub padded-more : {A : Type 0} (old mid new : List (List A)) (n : ℕ) → mid ≡ old ++ replicate n []
    → new ≡ mid ++ [] ∷ [] → new ≡ old ++ replicate (n + 1) []
padded-more old mid new n is more = more ∙ ap (λ t. t ++ [] ∷ []) is ∙ append_assoc old (replicate n []) ([] ∷ [])
    ∙ ap (λ t. old ++ t) (replicate_more n [])

pub shelves-after : {K X : Type 0} (cmp : K → K → Ordering) (shelf_of : K → ℕ) (old new : List (List (K × X))) (n : ℕ)
    → AreShelves cmp shelf_of 0 old → new ≡ old ++ replicate n [] → AreShelves cmp shelf_of 0 new
shelves-after cmp shelf_of old new n h is = rw is (shelves-padded cmp shelf_of 0 old n h)

pub joined-after : {A : Type 0} (old new : List (List A)) (n : ℕ) → new ≡ old ++ replicate n []
    → whole_list new ≡ whole_list old
joined-after old new n is = ap whole_list is ∙ joined-padded old n
