-- Facts of finite maps: a map of each row, entries put in, and extensionality.
use Rattle.std.proofs.Common.{◌≡◌, refl, sym, ◌∙◌, ap, subst, true, false, cond, List, [], ◌∷◌, ◌++◌, map, Option, Some}
use Rattle.std.proofs.Common.{None}
use Rattle.std.specs.Prelude.{T, ◌&&◌, option_map}
use Rattle.std.specs.declared.cmp.Ordering.{Ordering}
use Rattle.std.specs.declared.cmp.Ordering.TheVariants.{Less, Equal, Greater}
use Rattle.std.specs.Cmp.{IsTotalOrder, eq_by_cmp_equiv}
use Rattle.std.specs.Ordering.{eq_by_cmp, is_lt, is_eq}
use Rattle.std.specs.FinMap.{FinMap, IsAntisymmetric, get, insert, remove, entries, entries_sorted, get-entries}
use Rattle.std.specs.FinMap.{get-from_sorted, get-insert, get-remove, same_map}
use Rattle.std.specs.FinMap.Entries.{find, is_sorted, below_all, same_entries}
use Rattle.oe_model.specs.Maps.{each, with_all}
use Rattle.oe_model.specs.Rows.{with_row}

pub tied : (r : Ordering) → is_eq r ≡ true → r ≡ Equal
tied Less e = cc
tied Equal e = refl
tied Greater e = cc

module _ {K X Y : Type 0} (R : K → K → Ordering) (f : K → X → Y) where
  abbrev pub mapped : List (K × X) → List (K × Y)
  mapped es = map (λ e. (e.0, f e.0 e.1)) es

  below-mapped : (k : K) (es : List (K × X)) → below_all R k (mapped es) ≡ below_all R k es
  below-mapped k [] = refl
  below-mapped k (e ∷ es) = ap (λ b. is_lt (R k e.0) && b) (below-mapped k es)

  pub sorted-mapped : (es : List (K × X)) → is_sorted R (mapped es) ≡ is_sorted R es
  sorted-mapped [] = refl
  sorted-mapped (e ∷ es) = ap (λ b. b && is_sorted R (mapped es)) (below-mapped e.0 es)
      ∙ ap (λ b. below_all R e.0 es && b) (sorted-mapped es)

  pub find-mapped : IsAntisymmetric R → (q : K) (es : List (K × X))
      → find R q (mapped es) ≡ option_map (f q) (find R q es)
  find-mapped exact q [] = refl
  find-mapped exact q (e ∷ es) =
      elim (eq_by_cmp R q e.0) as (λ b. eq_by_cmp R q e.0 ≡ b
      → cond b (Some (f e.0 e.1)) (find R q (mapped es)) ≡ option_map (f q) (cond b (Some e.1) (find R q es))) [
        | true ↦ λ t. ap (λ k. Some (f k e.1)) (sym (exact q e.0 (tied (R q e.0) t)))
        | false ↦ λ t. find-mapped exact q es
      ] refl

  pub still_sorted : (m : FinMap R X) → T (is_sorted R (mapped (entries m)))
  still_sorted m = subst T (sym (sorted-mapped (entries m))) (entries_sorted m)

module _ {K X : Type 0} (R : K → K → Ordering) (f : K → X → X) (exact : IsAntisymmetric R) where
  pub get-each : (m : FinMap R X) (q : K) → get (each f m) q ≡ option_map (f q) (get m q)
  get-each m q =
      get-from_sorted R (mapped R f (entries m)) q (still_sorted R f m)
      ∙ find-mapped R f exact q (entries m) ∙ ap (option_map (f q)) (sym (get-entries m q))

-- maps whose rows are alike by f are the same list under f
pub same_mapped : {K X Y : Type 0} {R : K → K → Ordering} → IsTotalOrder R → IsAntisymmetric R
    → (f : K → X → Y) (m n : FinMap R X)
    → ((q : K) → option_map (f q) (get m q) ≡ option_map (f q) (get n q))
    → mapped R f (entries m) ≡ mapped R f (entries n)
same_mapped {R = R} o exact f m n h =
    same_entries R o exact (mapped R f (entries m)) (mapped R f (entries n)) (still_sorted R f m) (still_sorted R f n)
    (λ q.
    find-mapped R f exact q (entries m) ∙ ap (option_map (f q)) (sym (get-entries m q)) ∙ h q
    ∙ ap (option_map (f q)) (get-entries n q) ∙ sym (find-mapped R f exact q (entries n)))

module _ {K : Type 0} {R : K → K → Ordering} (o : IsTotalOrder R) (exact : IsAntisymmetric R) where
  pub is_self : (k : K) → eq_by_cmp R k k ≡ true
  is_self k = (eq_by_cmp_equiv o).refl k

  pub is_same : (a b : K) → eq_by_cmp R a b ≡ true → a ≡ b
  is_same a b e = exact a b (tied (R a b) e)

module _ {K X : Type 0} {R : K → K → Ordering} (o : IsTotalOrder R) (exact : IsAntisymmetric R) where
  pub get_own : (m : FinMap R X) (k : K) (v : X) → get (insert m k v) k ≡ Some v
  get_own m k v = get-insert o m k v k ∙ ap (λ b. cond b (Some v) (get m k)) (is_self o exact k)

  pub same : (m n : FinMap R X) → ((q : K) → get m q ≡ get n q) → m ≡ n
  same = same_map o exact

  pub map_get-insert : {Y : Type 0} (c : X → Y) (m : FinMap R X) (k : K) (v : X) (q : K)
      → option_map c (get (insert m k v) q) ≡ cond (eq_by_cmp R q k) (Some (c v)) (option_map c (get m q))
  map_get-insert c m k v q =
      ap (option_map c) (get-insert o m k v q)
      ∙ elim (eq_by_cmp R q k) as (λ b. option_map c (cond b (Some v) (get m q)) ≡ cond b (Some (c v))
      (option_map c (get m q))) [ true ↦ refl | false ↦ refl ]

  pub map_get-remove : {Y : Type 0} (c : X → Y) (m : FinMap R X) (k : K) (q : K)
      → option_map c (get (remove m k) q) ≡ cond (eq_by_cmp R q k) None (option_map c (get m q))
  map_get-remove c m k q =
      ap (option_map c) (get-remove o m k q)
      ∙ elim (eq_by_cmp R q k) as (λ b. option_map c (cond b None (get m q)) ≡ cond b None (option_map c (get m q)))
      [ true ↦ refl | false ↦ refl ]

  pub map_get-with_row : {Y : Type 0} (c : X → Y) (m : FinMap R X) (k : K) (v : Option X) (q : K)
      → option_map c (get (with_row k v m) q) ≡ cond (eq_by_cmp R q k) (option_map c v) (option_map c (get m q))
  map_get-with_row c m k None q = map_get-remove c m k q
  map_get-with_row c m k (Some v) q = map_get-insert c m k v q

module _ {K X : Type 0} {R : K → K → Ordering} where
  -- entries put in one after another
  pub with_all-append : (es fs : List (K × X)) (m : FinMap R X) → with_all (es ++ fs) m ≡ with_all fs (with_all es m)
  with_all-append [] fs m = refl
  with_all-append (e ∷ es) fs m = with_all-append es fs (insert m e.0 e.1)
