-- Figures of the facts of a finite map's rows: of the row of a key, of the rows of a group, and the sum over them.
use Rattle.std.proofs.Common.{◌≡◌, ℕ, ◌+◌, refl, sym, ◌∙◌, ap, subst, Bool, true, false, cond, List, [], ◌∷◌, map}
use Rattle.std.proofs.Common.{Option, Some, None, inl, inr, arith, ℤ, pos, ◌+ℤ◌}
use Rattle.std.specs.Prelude.{◌⊎◌, ◌&&◌, T, unwrap_or, option_map}
use Rattle.std.specs.Cmp.{IsTotalOrder, eq_by_cmp_equiv}
use Rattle.std.specs.Ordering.{eq_by_cmp}
use Rattle.std.specs.declared.cmp.Ordering.{Ordering}
use Rattle.std.specs.FinMap.{FinMap, IsAntisymmetric, get, entries, entries_sorted, get-entries}
use Rattle.std.specs.FinMap.Entries.{find, is_sorted, below_all}
use Rattle.std.proofs.lemmas.Int.{ints}
use Rattle.std.proofs.lemmas.List.Sorted.{IsPermutation-map}
use lib.IntN.{+ℤ_assoc, +ℤ_comm}
use Rattle.oe_tally.specs.Tallies.{together, total, SameTotals}
use Rattle.oe_tally.proofs.TotalFacts.{together-turn, along_permutation}
use Rattle.oe_ledgers.specs.Columns.{of_key}
use Rattle.oe_model.specs.Lists.{IsAmong}
use Rattle.oe_model.specs.Maps as model
use Rattle.oe_model.proofs.MapFacts.{is_same}
use Rattle.oe_model.proofs.EntryFacts.{EachOf, each_of, later, entries_at, row_among}
use Rattle.oe_model.proofs.SumFacts.{sum_in, sum-cons}
use Rattle.oe_fact_laws.specs.Facts.{AreOf}

first_part : (a b : Bool) → T (a && b) → T a
first_part true b p = tt
first_part false b p = p

second_part : (a b : Bool) → T (a && b) → T b
second_part true b p = p
second_part false b p = absurd p

pub of_each : {A : Type 0} (P : A → Type 0) (x : A) (xs : List A) → EachOf P xs → IsAmong x xs → P x
of_each P x [] h a = absurd a
of_each P x (y ∷ xs) h (inl e) = subst P e h.0
of_each P x (y ∷ xs) h (inr a) = of_each P x xs h.1 a

-- a column of some facts, taken together, is the same in whatever order they stand
module _ {K X F J C : Type 0} {R : K → K → Ordering} (fact : K → X → F) (m : FinMap R X) (facts : List F)
    (are : AreOf fact m facts) (same : J → J → Bool) (key : F → J) (op : C → C → C)
    (assoc : (a b c : C) → op (op a b) c ≡ op a (op b c)) (comm : (a b : C) → op a b ≡ op b a)
    (column : F → C) (j : J) where
  abbrev entry : F → J × C
  entry f = (key f, column f)

  -- the column of rows in the order of their keys
  abbrev pub of_entries : List (K × X) → Option C
  of_entries [] = None
  of_entries (e ∷ es) =
      together op (cond (same (key (fact e.0 e.1)) j) (Some (column (fact e.0 e.1))) None) (of_entries es)

  along : (es : List (K × X)) → total same op (map entry (map (λ e. fact e.0 e.1) es)) j ≡ of_entries es
  along [] = refl
  along (e ∷ es) =
      ap (together op (cond (same (key (fact e.0 e.1)) j) (Some (column (fact e.0 e.1))) None)) (along es)

  pub in_order : of_key same key op column facts j ≡ of_entries (entries m)
  in_order =
      along_permutation (SameTotals same op) (λ es k. refl)
      (λ e es fs h k. ap (together op (cond (same e.0 k) (Some e.1) None)) (h k))
      (λ e f es k. together-turn op assoc comm (cond (same f.0 k) (Some f.1) None) (cond (same e.0 k) (Some e.1) None)
      (total same op es k))
      (λ es fs gs p q k. q k ∙ p k) (map entry (map (λ e. fact e.0 e.1) (entries m))) (map entry facts)
      (IsPermutation-map entry (map (λ e. fact e.0 e.1) (entries m)) facts are) j
      ∙ along (entries m)

-- where a column has nothing at a key, no row has the key
module _ {K X F J C : Type 0} {R : K → K → Ordering} (o : IsTotalOrder R) (exact : IsAntisymmetric R)
    (fact : K → X → F) (m : FinMap R X) (facts : List F)
    (are : AreOf fact m facts) (same : J → J → Bool) (key : F → J) (op : C → C → C)
    (assoc : (a b c : C) → op (op a b) c ≡ op a (op b c)) (comm : (a b : C) → op a b ≡ op b a)
    (column : F → C) (j : J) where
  first_none : (b : Bool) (c : C) (s : Option C) → together op (cond b (Some c) None) s ≡ None
      → (b ≡ false) × (s ≡ None)
  first_none false c s h = (refl, h)
  first_none true c None h = let no : ⊥ = cc in absurd no
  first_none true c (Some d) h = let no : ⊥ = cc in absurd no

  empty : (es : List (K × X)) → of_entries fact m facts are same key op assoc comm column j es ≡ None
      → EachOf (λ e. same (key (fact e.0 e.1)) j ≡ false) es
  empty [] h = tt
  empty (e ∷ es) h =
      let parts = first_none (same (key (fact e.0 e.1)) j) (column (fact e.0 e.1))
      (of_entries fact m facts are same key op assoc comm column j es) h in
      (parts.0, empty es parts.1)

  pub none_there : of_key same key op column facts j ≡ None → (k : K) (x : X) → get m k ≡ Some x
      → same (key (fact k x)) j ≡ false
  none_there e k x at =
      of_each (λ f. same (key (fact f.0 f.1)) j ≡ false) (k, x) (entries m)
      (empty (entries m) (sym (in_order fact m facts are same key op assoc comm column j) ∙ e))
      (row_among o exact m k x at)

-- and where it has something, some row has the key
module _ {K X F J C : Type 0} {R : K → K → Ordering} (o : IsTotalOrder R) (exact : IsAntisymmetric R)
    (fact : K → X → F) (m : FinMap R X) (facts : List F)
    (are : AreOf fact m facts) (same : J → J → Bool) (key : F → J) (op : C → C → C)
    (assoc : (a b c : C) → op (op a b) c ≡ op a (op b c)) (comm : (a b : C) → op a b ≡ op b a)
    (column : F → C) (j : J) where
  in_entries : (es : List (K × X)) (c : C) → of_entries fact m facts are same key op assoc comm column j es ≡ Some c
      → (e : K × X) × IsAmong e es × (same (key (fact e.0 e.1)) j ≡ true)
  in_entries [] c h = let no : ⊥ = cc in absurd no
  in_entries (e ∷ es) c h =
      by_test (same (key (fact e.0 e.1)) j) refl h
      (in_entries es c)
    where
      by_test : (b : Bool) → same (key (fact e.0 e.1)) j ≡ b
          → together op (cond b (Some (column (fact e.0 e.1))) None)
          (of_entries fact m facts are same key op assoc comm column j es) ≡ Some c
          → (of_entries fact m facts are same key op assoc comm column j es ≡ Some c
          → (d : K × X) × IsAmong d es × (same (key (fact d.0 d.1)) j ≡ true))
          → (d : K × X) × IsAmong d (e ∷ es) × (same (key (fact d.0 d.1)) j ≡ true)
      by_test true t h rest = (e, inl refl, t)
      by_test false t h rest = let d = rest h in (d.0, inr d.1, d.2)

  pub some_there : (c : C) → of_key same key op column facts j ≡ Some c
      → (k : K) × (x : X) × (get m k ≡ Some x) × (same (key (fact k x)) j ≡ true)
  some_there c e =
      let d = in_entries (entries m) c (sym (in_order fact m facts are same key op assoc comm column j) ∙ e) in
      (d.0.0, d.0.1, of_each (λ f. get m f.0 ≡ Some f.1) d.0 (entries m) (entries_at o m) d.1, d.2)

-- where the facts' keys are the map's, the column is that of the key's row
module _ {K X F J C : Type 0} {R : K → K → Ordering} (o : IsTotalOrder R) (exact : IsAntisymmetric R)
    (fact : K → X → F) (m : FinMap R X) (facts : List F)
    (are : AreOf fact m facts) (same : J → J → Bool) (key : F → J) (op : C → C → C)
    (assoc : (a b c : C) → op (op a b) c ≡ op a (op b c)) (comm : (a b : C) → op a b ≡ op b a)
    (column : F → C) (id : K → J) (tie : (a : K) (x : X) (b : K) → same (key (fact a x)) (id b) ≡ eq_by_cmp R a b)
    (k : K) where
  abbrev of_rows : List (K × X) → Option C
  of_rows es = of_entries fact m facts are same key op assoc comm column (id k) es

  none_of : (es : List (K × X)) → EachOf (λ e. eq_by_cmp R e.0 k ≡ false) es → of_rows es ≡ None
  none_of [] h = refl
  none_of (e ∷ es) h =
      (λ i. together op (cond ((tie e.0 e.1 k ∙ h.0) i) (Some (column (fact e.0 e.1))) None) (of_rows es))
      ∙ none_of es h.1

  found : (es : List (K × X)) → T (is_sorted R es)
      → of_rows es ≡ option_map (λ x. column (fact k x)) (find R k es)
  found [] s = refl
  found (e ∷ es) s =
      by_test (eq_by_cmp R k e.0) refl (found es (second_part (below_all R e.0 es) (is_sorted R es) s))
    where
      turned : eq_by_cmp R e.0 k ≡ eq_by_cmp R k e.0
      turned = (eq_by_cmp_equiv o).symm e.0 k

      step : (b : Bool) → eq_by_cmp R k e.0 ≡ b
          → of_rows (e ∷ es) ≡ together op (cond b (Some (column (fact e.0 e.1))) None) (of_rows es)
      step b t = λ i. together op (cond ((tie e.0 e.1 k ∙ turned ∙ t) i) (Some (column (fact e.0 e.1))) None)
          (of_rows es)

      by_test : (b : Bool) → eq_by_cmp R k e.0 ≡ b
          → of_rows es ≡ option_map (λ x. column (fact k x)) (find R k es)
          → of_rows (e ∷ es) ≡ option_map (λ x. column (fact k x)) (cond b (Some e.1) (find R k es))
      by_test true t rest =
          let here : k ≡ e.0 = is_same o exact k e.0 t in
          let others = later o e es (first_part (below_all R e.0 es) (is_sorted R es) s) in
          let none : of_rows es ≡ None =
          none_of es (subst (λ (z : K). EachOf (λ (f : K × X). eq_by_cmp R f.0 z ≡ false) es) (sym here) others) in
          step true t ∙ ap (together op (Some (column (fact e.0 e.1)))) none
          ∙ ap (λ (z : K). Some (column (fact z e.1))) (sym here)
      by_test false t rest = step false t ∙ rest

  pub of_row : of_key same key op column facts (id k) ≡ option_map (λ x. column (fact k x)) (get m k)
  of_row =
      in_order fact m facts are same key op assoc comm column (id k) ∙ found (entries m) (entries_sorted m)
      ∙ ap (option_map (λ x. column (fact k x))) (sym (get-entries m k))

-- a sum over the rows of a group
module _ {K X F J : Type 0} {R : K → K → Ordering} (o : IsTotalOrder R) (fact : K → X → F) (m : FinMap R X)
    (facts : List F) (are : AreOf fact m facts) (same : J → J → Bool) (key : F → J) (column : F → ℤ) (j : J)
    (counts : K → X → ℕ)
    (each : (k : K) (x : X) → get m k ≡ Some x
    → cond (same (key (fact k x)) j) (column (fact k x)) (pos 0) ≡ pos (counts k x)) where
  abbrev summed : List (K × X) → Option ℤ
  summed es = of_entries fact m facts are same key (λ a b. a +ℤ b) +ℤ_assoc +ℤ_comm column j es

  step : (b : Bool) (c : ℤ) (s : Option ℤ)
      → unwrap_or (together (λ p q. p +ℤ q) (cond b (Some c) None) s) (pos 0) ≡ cond b c (pos 0) +ℤ unwrap_or s (pos 0)
  step true c None = omega (arith, ints)
  step true c (Some d) = refl
  step false c None = omega (arith, ints)
  step false c (Some d) = omega (arith, ints)

  along_sum : (es : List (K × X))
      → EachOf (λ e. cond (same (key (fact e.0 e.1)) j) (column (fact e.0 e.1)) (pos 0) ≡ pos (counts e.0 e.1)) es
      → unwrap_or (summed es) (pos 0) ≡ pos (sum_in counts es)
  along_sum [] h = refl
  along_sum (e ∷ es) h =
      step (same (key (fact e.0 e.1)) j) (column (fact e.0 e.1)) (summed es)
      ∙ (λ i. h.0 i +ℤ along_sum es h.1 i)
      ∙ sums (counts e.0 e.1) (sum_in counts es) (sum_in counts (e ∷ es)) (sum-cons counts e es)
    where
      sums : (a b c : ℕ) → c ≡ a + b → pos a +ℤ pos b ≡ pos c
      sums a b c s = omega (arith, ints)

  pub sum_of_group : unwrap_or (of_key same key (λ a b. a +ℤ b) column facts j) (pos 0) ≡ pos (model.sum_of counts m)
  sum_of_group =
      ap (λ s. unwrap_or s (pos 0)) (in_order fact m facts are same key (λ a b. a +ℤ b) +ℤ_assoc +ℤ_comm column j)
      ∙ along_sum (entries m)
      (each_of (λ e. get m e.0 ≡ Some e.1)
      (λ e. cond (same (key (fact e.0 e.1)) j) (column (fact e.0 e.1)) (pos 0) ≡ pos (counts e.0 e.1))
      (λ e at. each e.0 e.1 at) (entries m) (entries_at o m))

-- the greatest or the least number of the rows of a group, as `before` orders numbers
module _ {K X F J : Type 0} {R : K → K → Ordering} (o : IsTotalOrder R) (exact : IsAntisymmetric R)
    (fact : K → X → F) (m : FinMap R X) (facts : List F) (are : AreOf fact m facts) (same : J → J → Bool)
    (key : F → J) (number : F → ℕ) (j : J) (op : ℤ → ℤ → ℤ)
    (assoc : (a b c : ℤ) → op (op a b) c ≡ op a (op b c)) (comm : (a b : ℤ) → op a b ≡ op b a)
    (chosen : ℕ → ℕ → ℕ) (is : (a b : ℕ) → op (pos a) (pos b) ≡ pos (chosen a b))
    (before : ℕ → ℕ → Type 0) (itself : (a : ℕ) → before a a)
    (pass : (a b c : ℕ) → before a b → before b c → before a c)
    (of_first : (a b : ℕ) → before a (chosen a b)) (of_second : (a b : ℕ) → before b (chosen a b))
    (either : (a b : ℕ) → (chosen a b ≡ a) ⊎ (chosen a b ≡ b)) where
  abbrev is_in : K × X → Bool
  is_in e = same (key (fact e.0 e.1)) j

  abbrev of : K × X → ℕ
  of e = number (fact e.0 e.1)

  abbrev extremes : List (K × X) → Option ℤ
  extremes es = of_entries fact m facts are same key op assoc comm (λ f. pos (number f)) j es

  -- some row of the group has the number, and none goes beyond it
  record IsExtreme (es : List (K × X)) (g : ℕ) : Type 0 where
    pub row : K × X
    pub among : IsAmong row es
    pub inside : is_in row ≡ true
    pub has : of row ≡ g
    pub most : EachOf (λ e. is_in e ≡ true → before (of e) g) es

  abbrev IsSo : List (K × X) → Option ℤ → Type 0
  IsSo es None = EachOf (λ e. is_in e ≡ false) es
  IsSo es (Some z) = (g : ℕ) × (z ≡ pos g) × IsExtreme es g

  longer : (e : K × X) (es : List (K × X)) (g : ℕ) → (is_in e ≡ true → before (of e) g) → IsExtreme es g
      → IsExtreme (e ∷ es) g
  longer e es g own h =
      record { row = h.row; among = inr h.among; inside = h.inside; has = h.has; most = (own, h.most) }

  beyond : (es : List (K × X)) (g n : ℕ) → before g n → EachOf (λ e. is_in e ≡ true → before (of e) g) es
      → EachOf (λ e. is_in e ≡ true → before (of e) n) es
  beyond es g n h most = each_of (λ e. is_in e ≡ true → before (of e) g) (λ e. is_in e ≡ true → before (of e) n)
      (λ e p t. pass (of e) g n (p t) h) es most

  one_more : (b : Bool) (e : K × X) (es : List (K × X)) (s : Option ℤ) → is_in e ≡ b → IsSo es s
      → IsSo (e ∷ es) (together op (cond b (Some (pos (of e))) None) s)
  one_more false e es None t h = (t, h)
  one_more false e es (Some z) t (g, same_z, h) =
      (g, same_z, longer e es g (λ u. let no : ⊥ = cc in absurd no) h)
  one_more true e es None t h = (
    of e,
    refl,
    record {
      row = e;
      among = inl refl;
      inside = t;
      has = refl;
      most = (
        λ u. itself (of e),
        each_of (λ f. is_in f ≡ false) (λ f. is_in f ≡ true → before (of f) (of e))
            (λ f p u. let no : ⊥ = cc in absurd no) es h,
      );
    },
  )
  one_more true e es (Some z) t (g, same_z, h) = (
    chosen (of e) g,
    ap (op (pos (of e))) same_z ∙ is (of e) g,
    by_choice (either (of e) g),
  )
    where
      most : EachOf (λ f. is_in f ≡ true → before (of f) (chosen (of e) g)) (e ∷ es)
      most = (λ u. of_first (of e) g, beyond es g (chosen (of e) g) (of_second (of e) g) h.most)

      by_choice : (chosen (of e) g ≡ of e) ⊎ (chosen (of e) g ≡ g) → IsExtreme (e ∷ es) (chosen (of e) g)
      by_choice (inl c) = record { row = e; among = inl refl; inside = t; has = sym c; most = most }
      by_choice (inr c) =
          record { row = h.row; among = inr h.among; inside = h.inside; has = h.has ∙ sym c; most = most }

  so_along : (es : List (K × X)) → IsSo es (extremes es)
  so_along [] = tt
  so_along (e ∷ es) = one_more (is_in e) e es (extremes es) refl (so_along es)

  -- in the words of the map
  pub record IsExtremeOf (g : ℕ) : Type 0 where
    pub at : K
    pub row : X
    pub there : get m at ≡ Some row
    pub inside : same (key (fact at row)) j ≡ true
    pub has : number (fact at row) ≡ g
    pub most : (k : K) (x : X) → get m k ≡ Some x → same (key (fact k x)) j ≡ true → before (number (fact k x)) g

  abbrev pub IsFigure : Option ℤ → Type 0
  IsFigure None = (k : K) (x : X) → get m k ≡ Some x → same (key (fact k x)) j ≡ false
  IsFigure (Some z) = (g : ℕ) × (z ≡ pos g) × IsExtremeOf g

  in_map : (s : Option ℤ) → IsSo (entries m) s → IsFigure s
  in_map None h = λ k x e. of_each (λ f. is_in f ≡ false) (k, x) (entries m) h (row_among o exact m k x e)
  in_map (Some z) (g, same_z, h) = (
    g,
    same_z,
    record {
      at = h.row.0;
      row = h.row.1;
      there = of_each (λ e. get m e.0 ≡ Some e.1) h.row (entries m) (entries_at o m) h.among;
      inside = h.inside;
      has = h.has;
      most = λ k x e. of_each (λ f. is_in f ≡ true → before (of f) g) (k, x) (entries m) h.most
          (row_among o exact m k x e);
    },
  )

  pub extreme : IsFigure (of_key same key op (λ f. pos (number f)) facts j)
  extreme =
      subst (λ s. IsFigure s) (sym (in_order fact m facts are same key op assoc comm (λ f. pos (number f)) j))
      (in_map (extremes (entries m)) (so_along (entries m)))
