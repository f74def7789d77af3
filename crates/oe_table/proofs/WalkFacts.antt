-- The rows of sorted places are the entries of the finite map, in order; and what lies between two bounds.
use Rattle.std.proofs.Common.{◌≡◌, refl, sym, ◌∙◌, ap, Bool, true, false, cond, List, [], ◌∷◌, length, arith, Option}
use Rattle.std.proofs.Common.{Some, None}
use Rattle.std.specs.Option.{OnSome}
use Rattle.std.specs.List.{AllByRecursion, filter}
use Rattle.std.specs.List.Sorted.{IsStrictlySortedBy}
use Rattle.std.specs.Map.{keys_of, lookup, set_value}
use Rattle.std.specs.Ordering.{eq_by_cmp}
use Rattle.std.specs.declared.cmp.Ordering.{Ordering}
use Rattle.std.specs.declared.cmp.Ordering.TheVariants.{Less}
use Rattle.std.specs.Cmp.{IsTotalOrder}
use Rattle.std.specs.FinMap.Entries.{put as put_entry}
use Rattle.std.specs.FinMap.{FinMap, IsAntisymmetric, get, empty, remove, entries, entries-insert, len-empty}
use Rattle.std.specs.FinMap.{len-entries, get-remove, get_tied, same_map}
use Rattle.oe_table.specs.Table.{place, rows_of, live}
use Rattle.oe_table.proofs.TableFacts.{row_in, tied, get-rows_of}

no_length : {A : Type 0} (es : List A) → length es ≡ 0 → es ≡ []
no_length [] e = refl
no_length (x ∷ es) e = absurd (omega arith)

same_or_none : {A : Type 0} (b : Bool) (o : Option A) → (b ≡ true → o ≡ None) → cond b None o ≡ o
same_or_none true o h = sym (h refl)
same_or_none false o h = refl

module _ {K R : Type 0} (cmp : K → K → Ordering) where
  below : (k : K) (t : List (K × Option R)) → AllByRecursion (λ y. cmp k y ≡ Less) (keys_of t)
      → AllByRecursion (λ y. cmp k y ≡ Less) (keys_of (live t))
  below k [] h = h
  below k ((key, None) ∷ t) h = below k t h.1
  below k ((key, Some row) ∷ t) h = (h.0, below k t h.1)

  pub live_sorted : (t : List (K × Option R)) → IsStrictlySortedBy cmp (keys_of t)
      → IsStrictlySortedBy cmp (keys_of (live t))
  unfolding IsStrictlySortedBy
  live_sorted [] h = h
  live_sorted ((key, None) ∷ t) h = live_sorted t h.1
  live_sorted ((key, Some row) ∷ t) h = (below key t h.0, live_sorted t h.1)

  put-below : (k : K) (row : R) (es : List (K × R)) → AllByRecursion (λ y. cmp k y ≡ Less) (keys_of es)
      → put_entry cmp k row es ≡ (k, row) ∷ es
  put-below k row [] h = refl
  put-below k row (e ∷ es) h = rw h.0 refl

  pub place-below : (k : K) (t : List (K × Option R)) → AllByRecursion (λ y. cmp k y ≡ Less) (keys_of t)
      → place cmp t k ≡ None
  place-below k [] h = refl
  place-below k (e ∷ t) h = rw h.0 (place-below k t h.1)

  module _ (total : IsTotalOrder cmp) (exact : IsAntisymmetric cmp) where
    remove-absent : (m : FinMap cmp R) (k : K) → get m k ≡ None → remove m k ≡ m
    remove-absent m k none = same_map total exact _ _ (λ q.
        get-remove total m k q ∙ same_or_none (eq_by_cmp cmp q k) (get m q)
        (λ e. sym (get_tied total m q k (tied (cmp q k) e)) ∙ none))

    pub entries-rows_of : (t : List (K × Option R)) → IsStrictlySortedBy cmp (keys_of t)
        → entries (rows_of cmp t) ≡ live t
    unfolding IsStrictlySortedBy
    entries-rows_of [] h = no_length (entries (empty {X = R} {R = cmp}))
        (sym (len-entries (empty {X = R} {R = cmp})) ∙ len-empty cmp R)
    entries-rows_of ((key, None) ∷ t) h =
        ap entries (remove-absent (rows_of cmp t) key (get-rows_of total t key ∙ ap row_in (place-below key t h.0)))
        ∙ entries-rows_of t h.1
    entries-rows_of ((key, Some row) ∷ t) h =
        entries-insert total (rows_of cmp t) key row ∙ ap (put_entry cmp key row) (entries-rows_of t h.1)
        ∙ put-below key row (live t) (below key t h.0)

module _ {K R : Type 0} where
  live-none : (b : Bool) (key : K) (t : List (K × Option R)) → live (cond b ((key, None) ∷ t) t) ≡ live t
  live-none true key t = refl
  live-none false key t = refl

  live-some : (b : Bool) (key : K) (row : R) (t : List (K × Option R))
      → live (cond b ((key, Some row) ∷ t) t) ≡ cond b ((key, row) ∷ live t) (live t)
  live-some true key row t = refl
  live-some false key row t = refl

  live-filter : (test : K → Bool) (t : List (K × Option R))
      → live (filter (λ e. test e.0) t) ≡ filter (λ e. test e.0) (live t)
  live-filter test [] = refl
  live-filter test ((key, None) ∷ t) = live-none (test key) key (filter (λ e. test e.0) t) ∙ live-filter test t
  live-filter test ((key, Some row) ∷ t) =
      live-some (test key) key row (filter (λ e. test e.0) t) ∙ ap (λ l. cond (test key) ((key, row) ∷ l) l)
      (live-filter test t)

  -- the rows of a part by keys are that part of the rows
  pub live-between : (cmp : K → K → Ordering) → IsTotalOrder cmp → IsAntisymmetric cmp
      → (test : K → Bool) (t part : List (K × Option R)) → IsStrictlySortedBy cmp (keys_of t)
      → part ≡ filter (λ e. test e.0) t → live part ≡ filter (λ e. test e.0) (entries (rows_of cmp t))
  live-between cmp total exact test t part sorted is =
      ap live is ∙ live-filter test t ∙ ap (λ es. filter (λ e. test e.0) es)
      (sym (entries-rows_of cmp total exact t sorted))

pub on_some : {A : Type 0} (o : Option A) (P : Type 0) → P → OnSome o P
on_some None P h = tt
on_some (Some x) P h = h

set_value-step : {K X : Type 0} (b : Bool) (k : K) (x v : X) (es new : List (K × X)) {found : Option X}
    → cond b (Some x) found ≡ Some v → (found ≡ Some v → new ≡ es)
    → cond b ((k, v) ∷ es) ((k, x) ∷ new) ≡ (k, x) ∷ es
set_value-step true k x v es new e rest = let same : x ≡ v = cc in rw same refl
set_value-step false k x v es new e rest = ap (λ l. (k, x) ∷ l) (rest e)

set_value-same : {K X : Type 0} (test : K → Bool) (es : List (K × X)) (v : X) → lookup test es ≡ Some v
    → set_value test es v ≡ es
set_value-same test [] v e = refl
set_value-same test ((k, x) ∷ es) v e = set_value-step (test k) k x v es (set_value test es v) e
    (set_value-same test es v)

-- to write the value that is there changes nothing
pub rewritten_same : {K X : Type 0} (test : K → Bool) (old new : List (K × X)) (v : X) → lookup test old ≡ Some v
    → new ≡ set_value test old v → new ≡ old
rewritten_same test old new v there is = is ∙ set_value-same test old v there
