-- The rows of one map are those at the keys of another that has all its keys.
use Rattle.std.proofs.Common.{◌≡◌, refl, sym, ap, ◌∙◌, Bool, true, false, cond, Option, None, Some, List, [], ◌∷◌}
use Rattle.std.specs.Prelude.{T, ◌&&◌, IsSome, is_some, option_map}
use Rattle.std.specs.List.{filter_map, cons_option}
use Rattle.std.specs.declared.cmp.Ordering.{Ordering}
use Rattle.std.specs.declared.cmp.Ordering.TheVariants.{Less, Equal, Greater}
use Rattle.std.specs.Cmp.{IsTotalOrder}
use Rattle.std.specs.Ordering.{eq_by_cmp, is_lt, is_eq}
use Rattle.std.specs.FinMap.{FinMap, IsAntisymmetric, get, entries, entries_sorted, get-entries, retain_keys}
use Rattle.std.specs.FinMap.{get-retain_keys}
use Rattle.std.specs.FinMap.Entries.{find, is_sorted, below_all, same_entries}

tied : (r : Ordering) → is_eq r ≡ true → r ≡ Equal
tied Less e = cc
tied Equal e = refl
tied Greater e = cc

first_holds : (a b : Bool) → T (a && b) → T a
first_holds true b h = tt
first_holds false b h = h

second_holds : (a b : Bool) → T (a && b) → T b
second_holds true b h = h
second_holds false b h = absurd h

both_hold : (a b : Bool) → T a → T b → T (a && b)
both_hold true b h k = k
both_hold false b h k = h

module _ {K X Y : Type 0} {R : K → K → Ordering} (m : FinMap R X) where
  -- the rows that a map has at the keys of another's rows
  abbrev pub rows_at : List (K × Y) → List (K × X)
  rows_at es = filter_map (λ e. option_map (λ x. (e.0, x)) (get m e.0)) es

  below_kept : (k : K) (es : List (K × Y)) → T (below_all R k es) → T (below_all R k (rows_at es))
  below_kept k [] h = h
  below_kept k (e ∷ es) h = add (get m e.0) (below_kept k es (second_holds (is_lt (R k e.0)) (below_all R k es) h))
    where
      add : (v : Option X) → T (below_all R k (rows_at es))
          → T (below_all R k (cons_option (option_map (λ x. (e.0, x)) v) (rows_at es)))
      add None rest = rest
      add (Some x) rest = both_hold (is_lt (R k e.0)) (below_all R k (rows_at es))
          (first_holds (is_lt (R k e.0)) (below_all R k es) h) rest

  sorted_kept : (es : List (K × Y)) → T (is_sorted R es) → T (is_sorted R (rows_at es))
  sorted_kept [] h = h
  sorted_kept (e ∷ es) h =
      add (get m e.0) (below_kept e.0 es (first_holds (below_all R e.0 es) (is_sorted R es) h))
      (sorted_kept es (second_holds (below_all R e.0 es) (is_sorted R es) h))
    where
      add : (v : Option X) → T (below_all R e.0 (rows_at es)) → T (is_sorted R (rows_at es))
          → T (is_sorted R (cons_option (option_map (λ x. (e.0, x)) v) (rows_at es)))
      add None below rest = rest
      add (Some x) below rest = both_hold (below_all R e.0 (rows_at es)) (is_sorted R (rows_at es)) below rest

  -- the rows at a list's keys have the map's row at each of them, and no other
  find_kept : IsAntisymmetric R → (q : K) (es : List (K × Y))
      → find R q (rows_at es) ≡ cond (is_some (find R q es)) (get m q) None
  find_kept exact q [] = refl
  find_kept exact q (e ∷ es) = go (eq_by_cmp R q e.0) refl (get m e.0) refl (find_kept exact q es)
    where
      go : (b : Bool) → eq_by_cmp R q e.0 ≡ b → (v : Option X) → get m e.0 ≡ v
          → find R q (rows_at es) ≡ cond (is_some (find R q es)) (get m q) None
          → find R q (cons_option (option_map (λ x. (e.0, x)) v) (rows_at es)) ≡ cond
          (is_some (cond b (Some e.1) (find R q es))) (get m q) None
      go true t None h rest =
          let here : get m q ≡ None = ap (get m) (exact q e.0 (tied (R q e.0) t)) ∙ h in
          rest ∙ ap (λ v. cond (is_some (find R q es)) v None) here ∙ neither (is_some (find R q es)) ∙ sym here
        where
          neither : (b : Bool) → cond {A = Option X} b None None ≡ None
          neither true = refl
          neither false = refl
      go true t (Some x) h rest =
          ap (λ b. cond b (Some x) (find R q (rows_at es))) t ∙ sym (ap (get m) (exact q e.0 (tied (R q e.0) t)) ∙ h)
      go false t None h rest = rest
      go false t (Some x) h rest = ap (λ b. cond b (Some x) (find R q (rows_at es))) t ∙ rest

  -- the row at the first of a list's keys is the first, where there is one
  pub rows_some : (e : K × Y) (es : List (K × Y)) (x : X) → get m e.0 ≡ Some x
      → rows_at (e ∷ es) ≡ (e.0, x) ∷ rows_at es
  rows_some e es x at = ap (λ v. cons_option (option_map (λ y. (e.0, y)) v) (rows_at es)) at

  pub rows_none : (e : K × Y) (es : List (K × Y)) → get m e.0 ≡ None → rows_at (e ∷ es) ≡ rows_at es
  rows_none e es at = ap (λ v. cons_option (option_map (λ y. (e.0, y)) v) (rows_at es)) at

  -- a map's rows of some keys are those at a rising list's keys, where this has all of those keys and no others
  pub kept_among : IsTotalOrder R → IsAntisymmetric R → (p : K → Bool) (es : List (K × Y)) → T (is_sorted R es)
      → ((q : K) → p q ≡ true → IsSome (get m q) → IsSome (find R q es)) → ((q : K) → IsSome (find R q es) → p q ≡ true)
      → entries (retain_keys m p) ≡ rows_at es
  kept_among total exact p es sorted all only =
      same_entries R total exact (entries (retain_keys m p)) (rows_at es) (entries_sorted (retain_keys m p))
      (sorted_kept es sorted) (λ q.
      sym (get-entries (retain_keys m p) q) ∙ get-retain_keys m p q (λ x e. ap p (sym (exact q x e)))
      ∙ agree (p q) (get m q) (find R q es) (all q) (only q) ∙ sym (find_kept exact q es))
    where
      agree : (b : Bool) (v : Option X) (w : Option Y) → (b ≡ true → IsSome v → IsSome w) → (IsSome w → b ≡ true)
          → cond b v None ≡ cond (is_some w) v None
      agree true None None a o = refl
      agree true None (Some y) a o = refl
      agree true (Some x) None a o = let e : false ≡ true = a refl refl in let no : ⊥ = cc in absurd no
      agree true (Some x) (Some y) a o = refl
      agree false v None a o = refl
      agree false v (Some y) a o = let e : false ≡ true = o refl in let no : ⊥ = cc in absurd no

  -- a map whose keys another has: its rows are those at the keys of the other's
  pub all_is : IsTotalOrder R → IsAntisymmetric R → (n : FinMap R Y) → ((q : K) → IsSome (get m q) → IsSome (get n q))
      → entries m ≡ rows_at (entries n)
  all_is total exact n has =
      same_entries R total exact (entries m) (rows_at (entries n)) (entries_sorted m)
      (sorted_kept (entries n) (entries_sorted n)) (λ q.
      sym (get-entries m q) ∙ agree (get m q) (get n q) (has q)
      ∙ sym (find_kept exact q (entries n) ∙ ap (λ v. cond (is_some v) (get m q) None) (sym (get-entries n q))))
    where
      agree : (v : Option X) (w : Option Y) → (IsSome v → IsSome w) → v ≡ cond (is_some w) v None
      agree None None h = refl
      agree None (Some y) h = refl
      agree (Some x) None h = let e : false ≡ true = h refl in let no : ⊥ = cc in absurd no
      agree (Some x) (Some y) h = refl

  -- a map whose keys another has: its rows of some keys are those at the keys of the other's
  pub kept_is : IsTotalOrder R → IsAntisymmetric R → (n : FinMap R Y) (p : K → Bool)
      → ((q : K) → IsSome (get m q) → IsSome (get n q))
      → entries (retain_keys m p) ≡ rows_at (entries (retain_keys n p))
  kept_is total exact n p has =
      same_entries R total exact (entries (retain_keys m p)) (rows_at (entries (retain_keys n p)))
      (entries_sorted (retain_keys m p))
      (sorted_kept (entries (retain_keys n p)) (entries_sorted (retain_keys n p))) (λ q.
      sym (get-entries (retain_keys m p) q) ∙ get-retain_keys m p q (λ x e. ap p (sym (exact q x e)))
      ∙ agree q (p q) (get m q) (has q)
      ∙ sym (find_kept exact q (entries (retain_keys n p)) ∙ ap (λ v. cond (is_some v) (get m q) None)
      (sym (get-entries (retain_keys n p) q) ∙ get-retain_keys n p q (λ x e. ap p (sym (exact q x e))))))
    where
      agree : (q : K) (b : Bool) (v : Option X) → (IsSome v → IsSome (get n q))
          → cond b v None ≡ cond (is_some (cond b (get n q) None)) v None
      agree q true None h = none (is_some (get n q))
        where
          none : (b : Bool) → ◌≡◌ {A = Option X} None (cond b None None)
          none true = refl
          none false = refl
      agree q true (Some x) h = sym (ap (λ b. cond b (Some x) None) (h refl))
      agree q false v h = refl
