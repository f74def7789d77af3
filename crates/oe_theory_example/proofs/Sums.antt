-- Sums over a finite map after a row was put or removed.
use Rattle.std.proofs.Common.{◌≡◌, ℕ, ◌+◌, Bool, true, false, cond, ◌&&◌, Option, None, Some, List, [], ◌∷◌, refl, sym}
use Rattle.std.proofs.Common.{ap, ◌∙◌, subst, arith}
use Rattle.std.proofs.Math.Dec.{T}
use Rattle.std.specs.declared.cmp.Ordering.{Ordering}
use Rattle.std.specs.declared.cmp.Ordering.TheVariants.{Less, Equal, Greater}
use Rattle.std.specs.Ordering.{is_lt, is_eq, eq_by_cmp}
use Rattle.std.specs.Cmp.{IsTotalOrder, tied_itself}
use Rattle.std.specs.FinMap.{FinMap, get, insert, remove, entries, entries-insert, entries_sorted, get-entries, find}
use Rattle.std.specs.FinMap.{put, is_sorted, get-insert, get-remove, same_map, IsAntisymmetric}
use Rattle.std.specs.FinMap.Entries.{below_all, by_order}
use Rattle.oe_theory_example.specs.Conditions.{sum_entries, sum_map}

left : (a b : Bool) → T (a && b) → T a
left true b p = tt
left false b p = p

right : (a b : Bool) → T (a && b) → T b
right true b p = p
right false b p = absurd p

both : (a b : Bool) → T a → T b → T (a && b)
both true b p q = q
both false b p q = p

is_less : (r : Ordering) → T (is_lt r) → r ≡ Less
is_less Less p = refl
is_less Equal p = absurd p
is_less Greater p = absurd p

module _ {K X : Type 0} {R : K → K → Ordering} (o : IsTotalOrder R) (same : IsAntisymmetric R) (f : K → X → ℕ) where
  abbrev pub before : K → Option X → ℕ
  before k None = 0
  before k (Some x) = f k x

  -- no entry of a list above k has the key k
  find_below : (k : K) (es : List (K × X)) → T (below_all R k es) → find R k es ≡ None
  find_below k [] s = refl
  find_below k (y ∷ es) s = go (R k y.0) (is_less (R k y.0) (left (is_lt (R k y.0)) (below_all R k es) s))
      (find_below k es (right (is_lt (R k y.0)) (below_all R k es) s))
    where
      go : (r : Ordering) → r ≡ Less → find R k es ≡ None → cond (is_eq r) (Some y.1) (find R k es) ≡ None
      go Less p i = i
      go Equal p i = cc
      go Greater p i = i

  below_less : (k : K) (e : K) (es : List (K × X)) → R k e ≡ Less → T (below_all R e es) → T (below_all R k es)
  below_less k e [] h s = tt
  below_less k e (y ∷ es) h s =
      let ey : R e y.0 ≡ Less = is_less (R e y.0) (left (is_lt (R e y.0)) (below_all R e es) s) in
      both (is_lt (R k y.0)) (below_all R k es) (subst (λ r. T (is_lt r)) (sym (o.trans k e y.0 h ey)) tt)
      (below_less k e es h (right (is_lt (R e y.0)) (below_all R e es) s))

  sum_put : (k : K) (v : X) (es : List (K × X)) → T (is_sorted R es)
      → sum_entries f (put R k v es) + before k (find R k es) ≡ sum_entries f es + f k v
  sum_put k v [] s = omega arith
  sum_put k v (e ∷ es) s = go (R k e.0) refl (sum_put k v es (right (below_all R e.0 es) (is_sorted R es) s))
    where
      go : (r : Ordering) → R k e.0 ≡ r → sum_entries f (put R k v es) + before k (find R k es) ≡ sum_entries f es + f k
          v
          → sum_entries f (by_order r ((k, v) ∷ e ∷ es) ((e.0, v) ∷ es) (e ∷ put R k v es)) + before k
          (cond (is_eq r) (Some e.1) (find R k es)) ≡ (f e.0 e.1 + sum_entries f es) + f k v
      go Less h i =
          let none : before k (find R k es) ≡ 0 =
          ap (before k) (find_below k es (below_less k e.0 es h (left (below_all R e.0 es) (is_sorted R es) s))) in
          omega arith
      go Equal h i =
          let q : k ≡ e.0 = same k e.0 h in
          let a : f k e.1 ≡ f e.0 e.1 = ap (λ z. f z e.1) q in
          let b : f k v ≡ f e.0 v = ap (λ z. f z v) q in
          omega arith
      go Greater h i = omega arith

  pub sum_insert : (m : FinMap R X) (k : K) (v : X)
      → sum_map f (insert m k v) + before k (get m k) ≡ sum_map f m + f k v
  sum_insert m k v =
      ap (λ es. sum_entries f es + before k (get m k)) (entries-insert o m k v)
      ∙ (ap (λ z. sum_entries f (put R k v (entries m)) + before k z) (get-entries m k)
      ∙ sum_put k v (entries m) (entries_sorted m))

  pub sum_remove : (m : FinMap R X) (k : K) → sum_map f (remove m k) + before k (get m k) ≡ sum_map f m
  sum_remove m k = go (get m k) refl
    where
      gone : get (remove m k) k ≡ None
      gone = get-remove o m k k ∙ ap (λ (r : Ordering). cond (is_eq r) None (get m k)) (tied_itself o k)

      go : (v : Option X) → get m k ≡ v → sum_map f (remove m k) + before k v ≡ sum_map f m
      go None h =
          let e : remove m k ≡ m = same_map o same (remove m k) m
          (λ q. get-remove o m k q ∙ at_none q (R q k) refl h) in
          let z : sum_map f (remove m k) ≡ sum_map f m = ap (sum_map f) e in
          omega arith
        where
          at_none : (q : K) (r : Ordering) → R q k ≡ r → get m k ≡ None → cond (is_eq r) None (get m q) ≡ get m q
          at_none q Less p h = refl
          at_none q Equal p h = sym (ap (get m) (same q k p) ∙ h)
          at_none q Greater p h = refl
      go (Some x) h =
          let e : insert (remove m k) k x ≡ m = same_map o same (insert (remove m k) k x) m
          (λ q. get-insert o (remove m k) k x q
          ∙ (ap (λ z. cond (eq_by_cmp R q k) (Some x) z) (get-remove o m k q) ∙ at_some q (R q k) refl h)) in
          let z : sum_map f (insert (remove m k) k x) ≡ sum_map f m = ap (sum_map f) e in
          let i = sum_insert (remove m k) k x in
          let n : before k (get (remove m k) k) ≡ 0 = ap (before k) gone in
          omega (arith, i)
        where
          at_some : (q : K) (r : Ordering) → R q k ≡ r → get m k ≡ Some x
              → cond (is_eq r) (Some x) (cond (is_eq r) None (get m q)) ≡ get m q
          at_some q Less p h = refl
          at_some q Equal p h = sym (ap (get m) (same q k p) ∙ h)
          at_some q Greater p h = refl
