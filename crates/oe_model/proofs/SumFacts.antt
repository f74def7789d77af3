-- Sums over the rows of a finite map, and how a change of one row changes them.
use Rattle.std.proofs.Common.{◌≡◌, ℕ, ◌+◌, refl, sym, ◌∙◌, ap, subst, Bool, true, false, cond, List, [], ◌∷◌, Option}
use Rattle.std.proofs.Common.{Some, None, arith}
use Rattle.std.specs.Prelude.{T, ◌&&◌, sum_by}
use Rattle.std.specs.declared.cmp.Ordering.{Ordering}
use Rattle.std.specs.declared.cmp.Ordering.TheVariants.{Less, Equal, Greater}
use Rattle.std.specs.Cmp.{IsTotalOrder}
use Rattle.std.specs.Ordering.{eq_by_cmp, is_lt, is_eq}
use Rattle.std.proofs.lemmas.List.Sums.{sum_by-cons}
use Rattle.std.specs.FinMap.{FinMap, IsAntisymmetric, get, entries, entries_sorted, get-entries, insert, entries-insert}
use Rattle.std.specs.FinMap.{remove, entries-from_sorted, get-insert, get-remove}
use Rattle.std.specs.FinMap.Entries.{find, put, is_sorted, below_all, by_order}
use Rattle.oe_model.specs.Maps.{each, sum_of}
use Rattle.oe_model.proofs.MapFacts.{mapped, still_sorted, same, is_same, is_self}
use Rattle.oe_model.proofs.EntryFacts.{EachOf, each_of, entries_at}

-- the number of a row that may be absent
abbrev pub number_at : {K X : Type 0} → (K → X → ℕ) → K → Option X → ℕ
number_at f k None = 0
number_at f k (Some x) = f k x

module _ {K X : Type 0} (f : K → X → ℕ) where
  abbrev pub sum_in : List (K × X) → ℕ
  sum_in es = sum_by (λ e. f e.0 e.1) es

  pub sum-cons : (e : K × X) (es : List (K × X)) → sum_in (e ∷ es) ≡ f e.0 e.1 + sum_in es
  sum-cons e es = sum_by-cons (λ e. f e.0 e.1) e es

  pub sum_none : (es : List (K × X)) → EachOf (λ e. f e.0 e.1 ≡ 0) es → sum_in es ≡ 0
  sum_none [] h = refl
  sum_none (e ∷ es) h = let a = sum-cons e es in let b = sum_none es h.1 in let c : f e.0 e.1 ≡ 0 = h.0 in omega arith

  pub sum_same : (g : K → X → ℕ) (es : List (K × X)) → EachOf (λ e. f e.0 e.1 ≡ g e.0 e.1) es
      → sum_in es ≡ sum_by (λ e. g e.0 e.1) es
  sum_same g [] h = refl
  sum_same g (e ∷ es) h = let a = sum-cons e es in let b = sum_by-cons (λ (e : K × X). g e.0 e.1) e es in
      let c = sum_same g es h.1 in let d : f e.0 e.1 ≡ g e.0 e.1 = h.0 in omega arith

first_part : (a b : Bool) → T (a && b) → T a
first_part true b p = tt
first_part false b p = p

second_part : (a b : Bool) → T (a && b) → T b
second_part true b p = p
second_part false b p = absurd p

module _ {K X : Type 0} {R : K → K → Ordering} (o : IsTotalOrder R) (exact : IsAntisymmetric R) (f : K → X → ℕ) where
  -- a key below all others is none of them
  absent_below : (k : K) (es : List (K × X)) → T (below_all R k es) → find R k es ≡ None
  absent_below k [] h = refl
  absent_below k (e ∷ es) h =
      elim (R k e.0) as (λ r. T (is_lt r) → cond (is_eq r) (Some e.1) (find R k es) ≡ None) [
        | Less ↦ λ _. absent_below k es (second_part _ _ h)
        | Equal ↦ λ p. absurd p
        | Greater ↦ λ p. absurd p
      ] (first_part _ _ h)

  below_less : (k e : K) (es : List (K × X)) → R k e ≡ Less → T (below_all R e es) → T (below_all R k es)
  below_less k e [] l h = tt
  below_less k e (d ∷ es) l h =
      pair _ _ (subst (λ r. T (is_lt r)) (sym (o.trans k e d.0 l (less (R e d.0) (first_part _ _ h)))) tt)
      (below_less k e es l (second_part _ _ h))
    where
      less : (r : Ordering) → T (is_lt r) → r ≡ Less
      less Less p = refl
      less Equal p = absurd p
      less Greater p = absurd p

      pair : (a b : Bool) → T a → T b → T (a && b)
      pair true b p q = q
      pair false b p q = p

  put-sum : (k : K) (v : X) (es : List (K × X)) → T (is_sorted R es)
      → sum_in f (put R k v es) + number_at f k (find R k es) ≡ sum_in f es + f k v
  put-sum k v [] h = let a = sum-cons f (k, v) [] in omega arith
  put-sum k v (e ∷ es) h =
      elim (R k e.0) as (λ r. R k e.0 ≡ r → sum_in f (by_order r ((k, v) ∷ e ∷ es) ((e.0, v) ∷ es) (e ∷ put R k v es))
      + number_at f k (cond (is_eq r) (Some e.1) (find R k es)) ≡ sum_in f (e ∷ es) + f k v) [
        | Less ↦ λ t.
            let a : sum_in f ((k, v) ∷ e ∷ es) ≡ f k v + sum_in f (e ∷ es) = sum-cons f (k, v) (e ∷ es) in
            let b : number_at f k (find R k es) ≡ 0 = ap (λ u. number_at f k u)
            (absent_below k es (below_less k e.0 es t (first_part _ _ h))) in
            omega arith
        | Equal ↦ λ t.
            let a = sum-cons f (e.0, v) es in
            let b = sum-cons f e es in
            let c : f k e.1 ≡ f e.0 e.1 = ap {A = K} {B = ℕ} (λ j. f j e.1) (exact k e.0 t) in
            let d : f k v ≡ f e.0 v = ap {A = K} {B = ℕ} (λ j. f j v) (exact k e.0 t) in
            omega arith
        | Greater ↦ λ t.
            let a = sum-cons f e (put R k v es) in
            let b = sum-cons f e es in
            let c : sum_in f (put R k v es) + number_at f k (find R k es) ≡ sum_in f es + f k v =
            put-sum k v es (second_part (below_all R e.0 es) (is_sorted R es) h) in
            omega arith
      ] refl

  -- the sum after a row was put, beside the old row's number
  pub sum-insert : (m : FinMap R X) (k : K) (v : X)
      → sum_of f (insert m k v) + number_at f k (get m k) ≡ sum_of f m + f k v
  sum-insert m k v =
      ap (λ es. sum_in f es + number_at f k (get m k)) (entries-insert o m k v)
      ∙ ap (λ u. sum_in f (put R k v (entries m)) + number_at f k u) (get-entries m k)
      ∙ put-sum k v (entries m) (entries_sorted m)

  -- to put the row back that was removed
  pub sum-remove : (m : FinMap R X) (k : K) → sum_of f (remove m k) + number_at f k (get m k) ≡ sum_of f m
  sum-remove m k = by_row (get m k) refl
    where
      same_back : (x : X) → get m k ≡ Some x → insert (remove m k) k x ≡ m
      same_back x e = same o exact _ _ (λ q. get-insert o (remove m k) k x q
          ∙ ap (cond (eq_by_cmp R q k) (Some x)) (get-remove o m k q) ∙ by_key q (eq_by_cmp R q k) (eq_by_cmp R k q)
          refl)
        where
          by_key : (q : K) (b c : Bool) → eq_by_cmp R q k ≡ b → cond b (Some x) (cond b None (get m q)) ≡ get m q
          by_key q true c t = sym e ∙ ap (get m) (sym (is_same o exact q k t))
          by_key q false c t = refl

      same_gone : get m k ≡ None → remove m k ≡ m
      same_gone e = same o exact _ _ (λ q. get-remove o m k q ∙ by_key q (eq_by_cmp R q k) refl)
        where
          by_key : (q : K) (b : Bool) → eq_by_cmp R q k ≡ b → cond b None (get m q) ≡ get m q
          by_key q true t = sym e ∙ ap (get m) (sym (is_same o exact q k t))
          by_key q false t = refl

      by_row : (v : Option X) → get m k ≡ v → sum_of f (remove m k) + number_at f k v ≡ sum_of f m
      by_row None e = let a : sum_of f (remove m k) ≡ sum_of f m = ap (sum_of f) (same_gone e) in omega arith
      by_row (Some x) e =
          let a = sum-insert (remove m k) k x in
          let b : number_at f k (get (remove m k) k) ≡ 0 = ap (number_at f k)
          (get-remove o m k k ∙ ap (λ c. cond c None (get m k)) (is_self o exact k)) in
          let c : sum_of f (insert (remove m k) k x) ≡ sum_of f m = ap (sum_of f) (same_back x e) in
          omega arith

  pub sum-none : (m : FinMap R X) → ((k : K) (x : X) → get m k ≡ Some x → f k x ≡ 0) → sum_of f m ≡ 0
  sum-none m h = sum_none f (entries m)
      (each_of (λ e. get m e.0 ≡ Some e.1) (λ e. f e.0 e.1 ≡ 0) (λ e g. h e.0 e.1 g) (entries m) (entries_at o m))

  -- the sum of rows that each became another
  pub sum-each : (g : K → X → X) (m : FinMap R X) → ((k : K) (x : X) → f k (g k x) ≡ f k x)
      → sum_of f (each g m) ≡ sum_of f m
  sum-each g m h = ap (sum_in f) (entries-from_sorted R (mapped R g (entries m)) (still_sorted R g m))
      ∙ along (entries m)
    where
      along : (es : List (K × X)) → sum_in f (mapped R g es) ≡ sum_in f es
      along [] = refl
      along (e ∷ es) = let a = sum-cons f (e.0, g e.0 e.1) (mapped R g es) in let b = sum-cons f e es in
          let c = along es in let d : f e.0 (g e.0 e.1) ≡ f e.0 e.1 = h e.0 e.1 in omega arith
