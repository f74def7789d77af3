-- Among the rows of a list are all of its number, in the keys' order, and each row stays listed.
use Rattle.std.proofs.Common.{◌≡◌, refl, sym, ◌∙◌, ap, subst, Bool, true, false, cond, ℕ, List, [], ◌∷◌, get_or, Option}
use Rattle.std.proofs.Common.{Some, None, Result, Ok, Err, inl}
use Rattle.std.specs.Result.{OnOk, OnErr}
use Rattle.std.specs.Prelude.{T, ◌&&◌, ◌↔◌, is_some, not, filter}
use Rattle.std.specs.Option.{OnSome, option_copied_mut}
use Rattle.std.specs.Borrow.{MutBor}
use Rattle.std.specs.List.{AllByRecursion, filter_map, cons_option}
use Rattle.std.specs.List.Sorted.{IsStrictlySortedBy}
use Rattle.std.specs.Map.{keys_of}
use Rattle.std.specs.Ordering.{eq_by_cmp, is_lt}
use Rattle.std.specs.declared.cmp.Ordering.{Ordering}
use Rattle.std.specs.declared.cmp.Ordering.TheVariants.{Less}
use Rattle.std.specs.Cmp.{IsTotalOrder, eq_by_cmp_equiv}
use Rattle.std.specs.FinMap.{FinMap, IsAntisymmetric, get, entries, entries_sorted, get-entries, retain_keys}
use Rattle.std.specs.FinMap.{get-retain_keys, get-insert, insert, get-remove, remove, empty, get-empty}
use Rattle.std.specs.FinMap.Entries.{find, is_sorted, below_all, find-where_key, is_sorted-where_key, same_entries}
use Rattle.oe_table.specs.Table.{place, rows_of}
use Rattle.oe_table.specs.Shelf.{IsAscending}
use Rattle.oe_table.proofs.TableFacts.{tied}
use Rattle.oe_model.proofs.EntryFacts.{EachOf, each_of, entries_at}
use Rattle.oe_index.specs.Listed.{Keys, with_row, rows_at_keys, IsListed, ListsMore, ListsAtMost, Unlists, AreListed}

both : (a b : Bool) → T a → T b → T (a && b)
both true b p q = q
both false b p q = p

pub never : {P : Type 0} → true ≡ false → P
never e = cc

pub both_true : (a b : Bool) → (a && b) ≡ true → (a ≡ true) × (b ≡ true)
both_true true b e = (refl, e)
both_true false b e = never (sym e)

and_true : (a b : Bool) → a ≡ true → b ≡ true → (a && b) ≡ true
and_true true b p q = q
and_true false b p q = p

pub always_ok : {A E P : Type 0} (r : Result A E) → P → OnOk r P
always_ok (Ok x) p = p
always_ok (Err x) p = tt

-- lists stand on exactly where they stood and a test holds
pub stands-if : {P Q : Type 0} (a stays b : Bool) → b ≡ (a && stays) → (stays ≡ true) ↔ Q → (a ≡ true → Q → P)
    → (P → Q) → (b ≡ true) ↔ ((a ≡ true) × P)
stands-if a stays b is told to from = (
  (λ h. let t = both_true a stays (sym is ∙ h) in (t.0, to t.0 (told.0 t.1))),
  (λ h. is ∙ and_true a stays h.0 (told.1 (from h.1))),
)

pub none-told : {X : Type 0} (o : Option X) (b : Bool) → is_some o ≡ not b → (b ≡ true) ↔ (o ≡ None)
none-told None true e = ((λ h. refl), (λ h. refl))
none-told None false e = never (sym e)
none-told (Some x) true e = never e
none-told (Some x) false e = ((λ h. never (sym h)), (λ h. let no : ⊥ = cc in absurd no))

-- lists that are as they were
pub lists-same : {K : Type 0} (cmp : K → K → Ordering) (ls : List (Keys K)) (number : ℕ) (key : K)
    → ListsAtMost cmp ls ls number key
lists-same cmp ls number key = record { kept = λ n k h. h; only = λ n k h. inl h }

cond-none : {X : Type 0} (c : Bool) (o : Option X) → o ≡ None → cond c o None ≡ o
cond-none true o e = refl
cond-none false o e = sym e

module _ {X Y : Type 0} (f : X → Option Y) (p : X → Bool) where
  -- what is left out gives nothing
  kept_only : (xs : List X) → EachOf (λ x. p x ≡ false → f x ≡ None) xs → filter_map f (filter p xs) ≡ filter_map f xs
  kept_only [] out = refl
  kept_only (x ∷ xs) out = by (p x) refl (kept_only xs out.1)
    where
      by : (b : Bool) → p x ≡ b → filter_map f (filter p xs) ≡ filter_map f xs
          → filter_map f (cond b (x ∷ filter p xs) (filter p xs)) ≡ cons_option (f x) (filter_map f xs)
      by true e rest = ap (cons_option (f x)) rest
      by false e rest = rest ∙ sym (ap (λ o. cons_option o (filter_map f xs)) (out.0 e))

module _ {K X : Type 0} {cmp : K → K → Ordering} (total : IsTotalOrder cmp) (exact : IsAntisymmetric cmp)
    (m : FinMap cmp X) where
  row-below : (k e : K) (o : Option X) (rest : List (K × X)) → cmp k e ≡ Less → T (below_all cmp k rest)
      → T (below_all cmp k (with_row e o rest))
  row-below k e None rest less h = h
  row-below k e (Some x) rest less h = both (is_lt (cmp k e)) (below_all cmp k rest)
      (subst (λ r. T (is_lt r)) (sym less) tt) h

  found-below : (k : K) (es : Keys K) → AllByRecursion (λ y. cmp k y ≡ Less) (keys_of es)
      → T (below_all cmp k (rows_at_keys cmp m es))
  found-below k [] h = tt
  found-below k (e ∷ es) h = row-below k e.0 (get m e.0) (rows_at_keys cmp m es) h.0 (found-below k es h.1)

  row-sorted : (e : K) (o : Option X) (rest : List (K × X)) → T (below_all cmp e rest) → T (is_sorted cmp rest)
      → T (is_sorted cmp (with_row e o rest))
  row-sorted e None rest below h = h
  row-sorted e (Some x) rest below h = both (below_all cmp e rest) (is_sorted cmp rest) below h

  found-sorted : (es : Keys K) → IsAscending cmp es → T (is_sorted cmp (rows_at_keys cmp m es))
  unfolding IsStrictlySortedBy
  found-sorted [] up = tt
  found-sorted (e ∷ es) up = row-sorted e.0 (get m e.0) (rows_at_keys cmp m es) (found-below e.0 es up.0)
      (found-sorted es up.1)

  row-at : (k e : K) (v : Option (Unit {0})) (b : Bool) → eq_by_cmp cmp k e ≡ b → (o : Option X) → get m e ≡ o
      → (p : Option (Option (Unit {0}))) (rest : List (K × X))
      → find cmp k rest ≡ cond (is_some p) (get m k) None
      → find cmp k (with_row e o rest) ≡ cond (is_some (cond b (Some v) p)) (get m k) None
  row-at k e v true t None g p rest h =
      let none : get m k ≡ None = ap (get m) (exact k e (tied (cmp k e) t)) ∙ g in
      h ∙ cond-none (is_some p) (get m k) none
  row-at k e v true t (Some x) g p rest h =
      let some : get m k ≡ Some x = ap (get m) (exact k e (tied (cmp k e) t)) ∙ g in
      ap (λ c. cond c (Some x) (find cmp k rest)) t ∙ sym some
  row-at k e v false t None g p rest h = h
  row-at k e v false t (Some x) g p rest h = ap (λ c. cond c (Some x) (find cmp k rest)) t ∙ h

  found-at : (k : K) (es : Keys K) → find cmp k (rows_at_keys cmp m es) ≡ cond (is_some (place cmp es k)) (get m k) None
  found-at k [] = refl
  found-at k (e ∷ es) = row-at k e.0 e.1 (eq_by_cmp cmp k e.0) refl (get m e.0) refl (place cmp es k)
      (rows_at_keys cmp m es)
      (found-at k es)

  kept-at : (q : K → Bool) (k : K) → cond (q k) (get m k) None ≡ find cmp k (entries (retain_keys m q))
  kept-at q k = sym (get-retain_keys m q k (λ x e. ap q (sym (exact k x e)))) ∙ get-entries (retain_keys m q) k

  found-kept : (es : Keys K) → IsAscending cmp es
      → rows_at_keys cmp m es ≡ entries (retain_keys m (λ k. is_some (place cmp es k)))
  found-kept es up =
      same_entries cmp total exact _ _ (found-sorted es up)
      (entries_sorted (retain_keys m (λ k. is_some (place cmp es k))))
      (λ k. found-at k es ∙ kept-at (λ j. is_some (place cmp es j)) k)

  kept-filter : (q : K → Bool) → filter (λ e. q e.0) (entries m) ≡ entries (retain_keys m q)
  kept-filter q =
      same_entries cmp total exact _ _ (is_sorted-where_key cmp q (entries m) (entries_sorted m))
      (entries_sorted (retain_keys m q))
      (λ k. find-where_key cmp q k (λ x e. ap q (sym (exact k x e))) (entries m)
      ∙ ap (λ o. cond (q k) o None) (sym (get-entries m k)) ∙ kept-at q k)

  -- what a function gives of a list's rows it gives of all, where it gives nothing of those that are not listed
  found-all : {Y : Type 0} (f : K × X → Option Y) (es : Keys K) → IsAscending cmp es
      → ((k : K) (x : X) → get m k ≡ Some x → is_some (place cmp es k) ≡ false → f (k, x) ≡ None)
      → filter_map f (rows_at_keys cmp m es) ≡ filter_map f (entries m)
  found-all f es up out =
      ap (filter_map f) (found-kept es up ∙ sym (kept-filter (λ k. is_some (place cmp es k))))
      ∙ kept_only f (λ e. is_some (place cmp es e.0)) (entries m)
      (each_of (λ e. get m e.0 ≡ Some e.1) (λ e. is_some (place cmp es e.0) ≡ false → f e ≡ None)
      (λ e at. out e.0 e.1 at) (entries m) (entries_at total m))

module _ {K X : Type 0} {cmp : K → K → Ordering} (total : IsTotalOrder cmp) (exact : IsAntisymmetric cmp)
    (number_of : K → X → ℕ) where
  -- a row is put, or takes the place of one of its number
  put-step : (ls : List (Keys K)) (key k : K) (row x : X) (b : Bool) (o : Option X) → eq_by_cmp cmp k key ≡ b
      → cond b (Some row) o ≡ Some x → IsListed cmp ls (number_of key row) key
      → (o ≡ Some x → IsListed cmp ls (number_of k x) k) → IsListed cmp ls (number_of k x) k
  put-step ls key k row x true o t at own others =
      let same : k ≡ key = exact k key (tied (cmp k key) t) in
      let is : row ≡ x = cc in
      subst (λ (p : K × X). IsListed cmp ls (number_of p.0 p.1) p.0) (λ i. (sym same i, is i)) own
  put-step ls key k row x false o t at own others = others at

  pub listed-insert : (b : Bool) (ls : List (Keys K)) (m : FinMap cmp X) (key : K) (row : X)
      → (b ≡ true → IsListed cmp ls (number_of key row) key) → AreListed cmp number_of b ls m
      → AreListed cmp number_of b ls (insert m key row)
  listed-insert b ls m key row own h on k x at =
      put-step ls key k row x (eq_by_cmp cmp k key) (get m k) refl (sym (get-insert total m key row k) ∙ at) (own on)
      (λ e. h on k x e)

  pub listed-set : (b : Bool) (ls : List (Keys K)) (m : FinMap cmp X) (key : K) (x y : X) → get m key ≡ Some x
      → number_of key y ≡ number_of key x → AreListed cmp number_of b ls m
      → AreListed cmp number_of b ls (insert m key y)
  listed-set b ls m key x y at same h = listed-insert b ls m key y
      (λ on. subst (λ n. IsListed cmp ls n key) (sym same) (h on key x at)) h

  -- the lists are kept where the row stays under its number
  pub listed-swap : (a stays : Bool) (ls : List (Keys K)) (m : FinMap cmp X) (key : K) (row : X)
      → (AreListed cmp number_of true ls m → stays ≡ true → IsListed cmp ls (number_of key row) key)
      → AreListed cmp number_of a ls m → AreListed cmp number_of (a && stays) ls (insert m key row)
  listed-swap true true ls m key row own h = listed-insert true ls m key row (λ on. own h refl) h
  listed-swap true false ls m key row own h = λ on k x at. never (sym on)
  listed-swap false stays ls m key row own h = λ on k x at. never (sym on)

  -- after a put, or its refusal
  pub listed-put : {A E : Type 0} (r : Result A E) (b : Bool) (ls : List (Keys K)) (old new : List (K × Option X))
      (key : K) (row : X) → (b ≡ true → IsListed cmp ls (number_of key row) key)
      → AreListed cmp number_of b ls (rows_of cmp old) → OnOk r (rows_of cmp new ≡ insert (rows_of cmp old) key row)
      → OnErr r (new ≡ old) → AreListed cmp number_of b ls (rows_of cmp new)
  listed-put (Ok x) b ls old new key row own h ok err = subst (AreListed cmp number_of b ls) (sym ok)
      (listed-insert b ls (rows_of cmp old) key row own h)
  listed-put (Err x) b ls old new key row own h ok err =
      subst (λ (t : List (K × Option X)). AreListed cmp number_of b ls (rows_of cmp t)) (sym err) h

-- lists that stand no more often than before
pub listed-less : {K X : Type 0} {cmp : K → K → Ordering} (number_of : K → X → ℕ) (a b : Bool) (ls : List (Keys K))
    (m : FinMap cmp X) → (b ≡ true → a ≡ true)
    → AreListed cmp number_of a ls m → AreListed cmp number_of b ls m
listed-less number_of a b ls m less h = λ on. h (less on)

-- a row that is taken leaves the others listed
gone : {X : Type 0} (b : Bool) (o : Option X) (x : X) → cond b None o ≡ Some x → o ≡ Some x
gone true o x e = cc
gone false o x e = e

pub listed-remove : {K X : Type 0} {cmp : K → K → Ordering} (total : IsTotalOrder cmp) (number_of : K → X → ℕ)
    (b : Bool) (ls : List (Keys K)) (m : FinMap cmp X) (key : K)
    → AreListed cmp number_of b ls m → AreListed cmp number_of b ls (remove m key)
listed-remove {cmp = cmp} total number_of b ls m key h on k x at =
    h on k x (gone (eq_by_cmp cmp k key) (get m k) x (sym (get-remove total m key k) ∙ at))

own-gone : {X : Type 0} {P : Type 0} (b : Bool) (o : Option X) (x : X) → b ≡ true → cond b None o ≡ Some x → P
own-gone true o x own e = absurd (let no : ⊥ = cc in no)
own-gone false o x own e = never (sym own)

-- also where its key is taken off a list
pub listed-unlist : {K X : Type 0} {cmp : K → K → Ordering} (total : IsTotalOrder cmp) (number_of : K → X → ℕ)
    (b : Bool) (old new : List (Keys K)) (m : FinMap cmp X) (number : ℕ) (key : K)
    → Unlists cmp old new number key → AreListed cmp number_of b old m → AreListed cmp number_of b new (remove m key)
listed-unlist {cmp = cmp} total number_of b old new m number key off h on k x at =
    let left = sym (get-remove total m key k) ∙ at in
    (off (number_of k x) k).1 (
      h on k x (gone (eq_by_cmp cmp k key) (get m k) x left),
      λ e.
          own-gone (eq_by_cmp cmp k key) (get m k) x
          (ap (λ y. eq_by_cmp cmp y key) e.1 ∙ (eq_by_cmp_equiv total).refl key) left,
    )

pub listed-more : {K X : Type 0} {cmp : K → K → Ordering} (number_of : K → X → ℕ) (b : Bool) (old new : List (Keys K))
    (m : FinMap cmp X) → ListsMore cmp old new
    → AreListed cmp number_of b old m → AreListed cmp number_of b new m
listed-more number_of b old new m more h on k x at = more (number_of k x) k (h on k x at)

pub listed-none : {K X : Type 0} {cmp : K → K → Ordering} (number_of : K → X → ℕ) (b : Bool) (ls : List (Keys K))
    (m : FinMap cmp X) → m ≡ empty → AreListed cmp number_of b ls m
listed-none {K = K} {X = X} {cmp = cmp} number_of b ls m is on k x at =
    let none : get m k ≡ None = ap (λ (n : FinMap cmp X). get n k) is ∙ get-empty cmp k in
    let clash : None ≡ Some x = sym none ∙ at in cc

-- rows that are found by a test, where each that passes is listed
pub all-found : {K X Y : Type 0} {cmp : K → K → Ordering} (total : IsTotalOrder cmp) (exact : IsAntisymmetric cmp)
    (number_of : K → X → ℕ) (f : K × X → Option Y) (n : ℕ) (m : FinMap cmp X)
    (ls : List (Keys K)) (es : Keys K) → AreListed cmp number_of true ls m → es ≡ get_or ls n [] → IsAscending cmp es
    → ((k : K) (x : X) → (number_of k x ≡ n → ⊥) → f (k, x) ≡ None)
    → filter_map f (rows_at_keys cmp m es) ≡ filter_map f (entries m)
all-found {K = K} {cmp = cmp} total exact number_of f n m ls es listed is up out =
    found-all total exact m f es up (λ k x at absent.
    out k x (λ same.
    let there : IsListed cmp ls n k = subst (λ j. IsListed cmp ls j k) same (listed refl k x at) in
    let found_there : is_some (place cmp es k) ≡ true = ap (λ (l : Keys K). is_some (place cmp l k)) is ∙ there in
    never (sym found_there ∙ absent)))

some_inj : {R : Type 0} (a b : R) → Some a ≡ Some b → a ≡ b
some_inj a b e = cc

-- a row that was lent
module _ {R : Type 0} (lent : Option (MutBor R)) (row : MutBor R) (is : lent ≡ Some row) where
  pub on_row : {P : Type 0} → OnSome lent P → P
  on_row {P} h = subst (λ (o : Option (MutBor R)). OnSome o P) is h

  pub row_was : (o : Option R) → option_copied_mut lent ≡ o → o ≡ Some row.now
  row_was o same = sym same ∙ ap option_copied_mut is

  pub same_row : (o : Option R) (x : R) → option_copied_mut lent ≡ o → o ≡ Some x → row.now ≡ x
  same_row o x same at = some_inj row.now x (sym (row_was o same) ∙ at)

-- a walk, which is that of a list or another
pub by-flag : {X Y : Type 0} (f : List X → List Y) (b : Bool) (xs zs : List X) (ys : List Y) → (b ≡ true → f xs ≡ ys)
    → f zs ≡ ys → f (cond b xs zs) ≡ ys
by-flag f true xs zs ys h g = h refl
by-flag f false xs zs ys h g = g
