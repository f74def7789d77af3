-- What is put, row after row.
use Rattle.std.proofs.Common.{◌≡◌, ℕ, zero, suc, ◌+◌, ◌<◌, ◌⊎◌, inl, inr}
use Rattle.std.proofs.Common.{true, false, List, [], ◌∷◌, ◌++◌, length, map, take}
use Rattle.std.proofs.Common.{get_or, Option, Some, None, sym, ap, subst, ◌∙◌, refl, append_assoc, arith}
use Rattle.std.specs.Prelude.{IsSome, is_some, option_map}
use Rattle.std.specs.Borrow.{Bor}
use Rattle.std.specs.Option.{option_copied}
use Rattle.std.specs.Cmp.{IsTotalOrder, eq_by_cmp_equiv}
use Rattle.std.specs.FinMap.{FinMap, IsAntisymmetric, get, insert}
use Rattle.std.specs.declared.cmp.Ordering.{Ordering}
use Rattle.std.specs.declared.cmp.Ordering.TheVariants.{Less}
use Rattle.std.specs.List.Sorted.{IsStrictlySortedBy}
use Rattle.std.proofs.lemmas.List.{append-nil, length-map, get_or-map}
use Rattle.std.proofs.lemmas.Map.Keys.{Less-from_sorted}
use Rattle.oe_rows.specs.declared.keys.Key.{Key}
use Rattle.oe_rows.specs.declared.rows.Row.{Row}
use Rattle.oe_model.specs.Rows.{Rows, row_at}
use Rattle.oe_model.proofs.PresenceFacts.{some-map}
use Rattle.oe_file_tables.specs.declared.lines.Numbered.{Numbered}
use Rattle.oe_table.proofs.TableFacts.{tied}
use Rattle.oe_file_loading.proofs.BaseFacts.{only_row}
use Rattle.oe_file_loading.specs.declared.loading.Apart as apart
use Rattle.oe_file_loading.specs.Placing.{HasRow, missing_of, IsRowOf, IsKeyOf, Put, Starts, Keeps, SetsApart, Puts}
use Rattle.oe_file_loading.specs.Placing.{PutsOne}
use Rattle.oe_file_loading.specs.Placing.{OnlyAdds, OnlyOf}

-- ---- rows that a row refers to

pub none_missing : (r : Rows) → missing_of [] r ≡ None
unfolding missing_of
none_missing r = refl

pub met_next : (k : Key) (ks : List Key) (r : Rows) → HasRow r k → missing_of (k ∷ ks) r ≡ missing_of ks r
unfolding missing_of
met_next k ks r h = rw h

pub lacks_first : (k : Key) (ks : List Key) (r : Rows) → is_some (row_at r k) ≡ false → missing_of (k ∷ ks) r ≡ Some k
unfolding missing_of
lacks_first k ks r e = rw e

pub met_first : (k : Key) (ks : List Key) (r : Rows) → missing_of (k ∷ ks) r ≡ None
    → HasRow r k × (missing_of ks r ≡ None)
met_first k ks r e =
    elim (is_some (row_at r k)) as (λ b. is_some (row_at r k) ≡ b → HasRow r k × (missing_of ks r ≡ None)) [
      | true ↦ λ t. (t, sym (met_next k ks r t) ∙ e)
      | false ↦ λ t. let no = sym (lacks_first k ks r t) ∙ e in absurd (let z : ⊥ = cc in z)
    ] refl

lent_map : {T : Type 0} (c : T → Row) (o : Option (Bor T)) → is_some (option_map c (option_copied o)) ≡ is_some o
lent_map c None = refl
lent_map c (Some x) = refl

-- a row that was looked up is there, or not
module _ {T : Type 0} (c : T → Row) (o : Option (Bor T)) (g : Option T) (is : option_copied o ≡ g) (k : Key)
    (ks : List Key) (r : Rows) (at : row_at r k ≡ option_map c g) where
  pub same_there : is_some (row_at r k) ≡ is_some o
  same_there = ap is_some at ∙ ap (λ g. is_some (option_map c g)) (sym is) ∙ lent_map c o

  pub lent_met : is_some o ≡ true → missing_of (k ∷ ks) r ≡ missing_of ks r
  lent_met e = met_next k ks r (same_there ∙ e)

  pub lent_lacks : is_some o ≡ false → missing_of (k ∷ ks) r ≡ Some k
  lent_lacks e = lacks_first k ks r (same_there ∙ e)

-- ---- one row more

pub absent : {X : Type 0} (c : X → Row) (o : Option X) → (IsSome (option_map c o) → ⊥) → o ≡ None
absent c None never = refl
absent c (Some x) never = absurd (never refl)

-- a row that nothing refers to in vain is there
pub met_there : {X : Type 0} (c : X → Row) (g : Option X) (k : Key) (ks : List Key) (r : Rows)
    → row_at r k ≡ option_map c g → missing_of (k ∷ ks) r ≡ None → IsSome g × (missing_of ks r ≡ None)
met_there c g k ks r at met =
    let both = met_first k ks r met in (sym (some-map c g) ∙ subst IsSome at both.0, both.1)

-- whatever key has a row behind a row that was put had one before, or is its key
pub only_put : {K X : Type 0} {R : K → K → Ordering} → IsTotalOrder R → IsAntisymmetric R → (c : X → Row)
    (old new : FinMap R X) (key : K) (x : X) → new ≡ insert old key x → (k : K) → IsSome (option_map c (get new k))
    → (k ≡ key) ⊎ IsSome (option_map c (get old k))
only_put total exact c old new key x e k h =
    by (only_row total exact old key x k (subst (λ m. IsSome (get m k)) e (sym (some-map c (get new k)) ∙ h)))
  where
    by : (k ≡ key) ⊎ IsSome (get old k) → (k ≡ key) ⊎ IsSome (option_map c (get old k))
    by (inl is) = inl is
    by (inr h) = inr (some-map c (get old k) ∙ h)

-- ---- rows of lines

module _ {K X : Type 0} where
  no_line : (k : K) (x : X) → IsRowOf {K = K} {X = X} [] k x → ⊥
  unfolding IsRowOf
  no_line k x h = h

  pub row_before : (ns : List (Numbered K X)) (n : Numbered K X) (k : K) (x : X) → IsRowOf ns k x
      → IsRowOf (ns ++ n ∷ []) k x
  unfolding IsRowOf
  row_before [] n k x h = absurd h
  row_before (m ∷ ns) n k x (inl is) = inl is
  row_before (m ∷ ns) n k x (inr h) = inr (row_before ns n k x h)

  pub row_last : (ns : List (Numbered K X)) (n : Numbered K X) (k : K) (x : X) → (n.key ≡ k) × (n.row ≡ x)
      → IsRowOf (ns ++ n ∷ []) k x
  unfolding IsRowOf
  row_last [] n k x is = inl is
  row_last (m ∷ ns) n k x is = inr (row_last ns n k x is)

  pub row_cases : (ns : List (Numbered K X)) (n : Numbered K X) (k : K) (x : X) → IsRowOf (ns ++ n ∷ []) k x
      → IsRowOf ns k x ⊎ ((n.key ≡ k) × (n.row ≡ x))
  unfolding IsRowOf
  row_cases [] n k x (inl is) = inr is
  row_cases [] n k x (inr h) = absurd h
  row_cases (m ∷ ns) n k x (inl is) = inl (inl is)
  row_cases (m ∷ ns) n k x (inr h) = further (row_cases ns n k x h)
    where
      further : IsRowOf ns k x ⊎ ((n.key ≡ k) × (n.row ≡ x))
          → (((m.key ≡ k) × (m.row ≡ x)) ⊎ IsRowOf ns k x) ⊎ ((n.key ≡ k) × (n.row ≡ x))
      further (inl g) = inl (inr g)
      further (inr is) = inr is

  -- the row at a place is one of them
  pub row_at_place : (ns : List (Numbered K X)) (i : ℕ) (n : Numbered K X) → i < length ns → n ≡ get_or ns i n
      → IsRowOf ns n.key n.row
  unfolding IsRowOf
  row_at_place [] i n h e = absurd (omega (arith, h))
  row_at_place (m ∷ ns) zero n h e =
      inl (ap (λ (n : Numbered K X). n.key) (sym e), ap (λ (n : Numbered K X). n.row) (sym e))
  row_at_place (m ∷ ns) (suc i) n h e = inr (row_at_place ns i n (omega (arith, h)) e)

  -- one of the first rows has a place
  place_of_row : (ns : List (Numbered K X)) (i : ℕ) (k : K) (x : X) (d : Numbered K X) → IsRowOf (take i ns) k x
      → (j : ℕ) × (j < i) × (j < length ns) × ((get_or ns j d).key ≡ k)
  unfolding IsRowOf
  place_of_row [] zero k x d h = absurd h
  place_of_row [] (suc i) k x d h = absurd h
  place_of_row (m ∷ ns) zero k x d h = absurd h
  place_of_row (m ∷ ns) (suc i) k x d (inl is) = (0, omega arith, omega arith, is.0)
  place_of_row (m ∷ ns) (suc i) k x d (inr h) =
      let p = place_of_row ns i k x d h in (p.0 + 1, omega (arith, p.1), omega (arith, p.2), by p.0 p.3)
    where
      by : (j : ℕ) → (get_or ns j d).key ≡ k → (get_or (m ∷ ns) (j + 1) d).key ≡ k
      by j e = let next : suc j ≡ j + 1 = omega arith in subst (λ (z : ℕ). (get_or (m ∷ ns) z d).key ≡ k) next e

-- the next key differs from all before it, where keys ascend
pub not_less : {K : Type 0} {R : K → K → Ordering} → IsTotalOrder R → (k : K) → R k k ≡ Less → ⊥
not_less {R = R} total k e = let same = tied (R k k) ((eq_by_cmp_equiv total).refl k) in let no = sym e ∙ same in cc

module _ {K X : Type 0} {R : K → K → Ordering} (total : IsTotalOrder R) where
  pub next_new : (ns ys : List (Numbered K X)) (n : Numbered K X) → IsStrictlySortedBy R (map (λ n. n.key) ns)
      → ys ≡ take (length ys) ns → length ys < length ns → n ≡ get_or ns (length ys) n → IsKeyOf ys n.key → ⊥
  next_new ns ys n sorted front short is (x, h) =
      let p = place_of_row ns (length ys) n.key x n (subst (λ ys. IsRowOf ys n.key x) front h) in
      let less =
      Less-from_sorted R (map (λ n. n.key) ns) p.0 (length ys) n.key sorted p.1
      (omega (arith, short, length-map ns (λ (n : Numbered K X). n.key))) in
      let key : Numbered K X → K = λ n. n.key in
      let first : get_or (map key ns) p.0 n.key ≡ n.key = get_or-map key ns p.0 n n.key p.2 ∙ p.3 in
      let second : get_or (map key ns) (length ys) n.key ≡ n.key =
      get_or-map key ns (length ys) n n.key short ∙ ap key (sym is) in
      not_less total n.key ((λ i. R (sym first i) (sym second i)) ∙ less)

-- the next row's key has no row yet
pub new_row : {K X : Type 0} {R : K → K → Ordering} → IsTotalOrder R → (key_of : K → Key) (ns ys : List (Numbered K X))
    (n : Numbered K X) (r s : Rows) → IsStrictlySortedBy R (map (λ n. n.key) ns)
    → ((k : K) → IsKeyOf ns k → HasRow r (key_of k) → ⊥) → ys ≡ take (length ys) ns → length ys < length ns
    → n ≡ get_or ns (length ys) n → OnlyOf key_of ys r s → HasRow s (key_of n.key) → ⊥
new_row total key_of ns ys n r s sorted new front short is only h = by (only n.key h)
  where
    by : HasRow r (key_of n.key) ⊎ IsKeyOf ys n.key → ⊥
    by (inl old) = new n.key (n.row, row_at_place ns (length ys) n short is) old
    by (inr h) = next_new total ns ys n sorted front short is h

-- ---- rows that are put

module _ {K X : Type 0} (key_of : K → Key) (refers : K → X → List Key) (with : K → X → Rows → Rows) where
  abbrev Has : List (Numbered K X) → Rows → Rows → List apart.Apart → List apart.Apart → Type 0
  Has ns r s a b = Puts key_of refers with ns r s a b

  pub puts_none : (r : Rows) (a : List apart.Apart) → Has [] r r a a
  puts_none r a = ([], Starts, sym (append-nil a))

  pub puts_more : (ns : List (Numbered K X)) (r s u : Rows) (a b c : List apart.Apart) (n : Numbered K X)
      → Has ns r s a b → PutsOne key_of refers with n.key n.row s u b c → Has (ns ++ n ∷ []) r u a c
  puts_more ns r s u a b c n h (inl kept) = (
    h.0,
    subst (λ u. Put key_of refers with (ns ++ n ∷ []) r u h.0) (sym kept.1) (Keeps n h.1 kept.0),
    kept.2 ∙ h.2,
  )
  puts_more ns r s u a b c n h (inr p) = (
    h.0 ++ record { key = key_of n.key; missing = p.0 } ∷ [],
    subst (λ u. Put key_of refers with (ns ++ n ∷ []) r u (h.0 ++ record { key = key_of n.key; missing = p.0 } ∷ []))
        (sym p.2) (SetsApart n p.0 h.1 p.1),
    p.3 ∙ ap (λ z. z ++ record { key = key_of n.key; missing = p.0 } ∷ []) h.2
        ∙ append_assoc a h.0 (record { key = key_of n.key; missing = p.0 } ∷ []),
  )

  pub only_none : (r : Rows) → OnlyOf {X = X} key_of [] r r
  only_none r k h = inl h

  pub only_more : (ns : List (Numbered K X)) (r s u : Rows) (n : Numbered K X) → OnlyOf key_of ns r s
      → OnlyAdds key_of n.key s u → OnlyOf key_of (ns ++ n ∷ []) r u
  only_more ns r s u n before adds k h = by (adds k h)
    where
      further : HasRow r (key_of k) ⊎ IsKeyOf ns k → HasRow r (key_of k) ⊎ IsKeyOf (ns ++ n ∷ []) k
      further (inl h) = inl h
      further (inr (x, h)) = inr (x, row_before ns n k x h)

      by : (k ≡ n.key) ⊎ HasRow s (key_of k) → HasRow r (key_of k) ⊎ IsKeyOf (ns ++ n ∷ []) k
      by (inl is) = inr (n.row, row_last ns n k n.row (sym is, refl))
      by (inr h) = further (before k h)

  -- what no row changes stays
  pub put_keeps : {Z : Type 0} (f : Rows → Z) → ((k : K) (x : X) (r : Rows) → f (with k x r) ≡ f r)
      → (ns : List (Numbered K X)) (r s : Rows) (a : List apart.Apart) → Put key_of refers with ns r s a → f s ≡ f r
  put_keeps f still _ r _ _ Starts = refl
  put_keeps f still _ r _ _ (Keeps {s = s} n h met) = still n.key n.row s ∙ put_keeps f still _ r s _ h
  put_keeps f still _ r _ _ (SetsApart n m h lacks) = put_keeps f still _ r _ _ h

  module _ (same : (q : K) (y : X) (k : K) (x : X) (r : Rows)
      → missing_of (refers q y) (with k x r) ≡ missing_of (refers q y) r) where
    -- a row of the lines is kept whose references are there
    pub put_kept : ((k : K) (x : X) (r : Rows) → HasRow (with k x r) (key_of k))
        → ((k : K) (x : X) (r : Rows) (q : K) → HasRow r (key_of q) → HasRow (with k x r) (key_of q))
        → (ns : List (Numbered K X)) (r s : Rows) (a : List apart.Apart) → Put key_of refers with ns r s a
        → (k : K) (x : X) → IsRowOf ns k x → missing_of (refers k x) r ≡ None → HasRow s (key_of k)
    put_kept own grows _ r _ _ Starts k x h met = absurd (no_line k x h)
    put_kept own grows _ r _ _ (Keeps {ns = ns} {s = s} {aparts = a} n h there) k x is met =
        by (row_cases ns n k x is) (λ is. put_kept own grows ns r s a h k x is met)
      where
        by : IsRowOf ns k x ⊎ ((n.key ≡ k) × (n.row ≡ x)) → (IsRowOf ns k x → HasRow s (key_of k))
            → HasRow (with n.key n.row s) (key_of k)
        by (inl is) before = grows n.key n.row s k (before is)
        by (inr e) before = subst (λ k. HasRow (with n.key n.row s) (key_of k)) e.0 (own n.key n.row s)
    put_kept own grows _ r _ _ (SetsApart {ns = ns} {s = s} {aparts = a} n m h lacks) k x is met =
        by (row_cases ns n k x is) (λ is. put_kept own grows ns r s a h k x is met)
      where
        by : IsRowOf ns k x ⊎ ((n.key ≡ k) × (n.row ≡ x)) → (IsRowOf ns k x → HasRow s (key_of k))
            → HasRow s (key_of k)
        by (inl is) before = before is
        by (inr e) before =
            let there = put_keeps (missing_of (refers n.key n.row)) (same n.key n.row) ns r s a h in
            let none : missing_of (refers n.key n.row) r ≡ None =
            (λ i. missing_of (refers (e.0 i) (e.1 i)) r) ∙ met in
            let no = sym lacks ∙ there ∙ none in absurd (let z : ⊥ = cc in z)

    -- a row that is kept is of a line, and its references are there
    pub put_met : ((k : K) (x : X) (r : Rows) (q : K) → HasRow (with k x r) (key_of q)
        → (q ≡ k) ⊎ HasRow r (key_of q))
        → (ns : List (Numbered K X)) (r s : Rows) (a : List apart.Apart) → Put key_of refers with ns r s a
        → (q : K) → HasRow s (key_of q)
        → HasRow r (key_of q) ⊎ ((x : X) × IsRowOf ns q x × (missing_of (refers q x) r ≡ None))
    put_met only _ r _ _ Starts q h = inl h
    put_met only _ r _ _ (Keeps {ns = ns} {s = s} {aparts = a} n h there) q has =
        by (only n.key n.row s q has) (λ has. put_met only ns r s a h q has)
      where
        further : HasRow r (key_of q) ⊎ ((x : X) × IsRowOf ns q x × (missing_of (refers q x) r ≡ None))
            → HasRow r (key_of q) ⊎ ((x : X) × IsRowOf (ns ++ n ∷ []) q x × (missing_of (refers q x) r ≡ None))
        further (inl h) = inl h
        further (inr p) = inr (p.0, row_before ns n q p.0 p.1, p.2)

        by : (q ≡ n.key) ⊎ HasRow s (key_of q)
            → (HasRow s (key_of q)
            → HasRow r (key_of q) ⊎ ((x : X) × IsRowOf ns q x × (missing_of (refers q x) r ≡ None)))
            → HasRow r (key_of q) ⊎ ((x : X) × IsRowOf (ns ++ n ∷ []) q x × (missing_of (refers q x) r ≡ None))
        by (inl e) before =
            inr (
              n.row,
              row_last ns n q n.row (sym e, refl),
              ap (λ k. missing_of (refers k n.row) r) e
                  ∙ sym (put_keeps (missing_of (refers n.key n.row)) (same n.key n.row) ns r s a h) ∙ there,
            )
        by (inr has) before = further (before has)
    put_met only _ r _ _ (SetsApart {ns = ns} {s = s} {aparts = a} n m h lacks) q has =
        further (put_met only ns r s a h q has)
      where
        further : HasRow r (key_of q) ⊎ ((x : X) × IsRowOf ns q x × (missing_of (refers q x) r ≡ None))
            → HasRow r (key_of q) ⊎ ((x : X) × IsRowOf (ns ++ n ∷ []) q x × (missing_of (refers q x) r ≡ None))
        further (inl h) = inl h
        further (inr p) = inr (p.0, row_before ns n q p.0 p.1, p.2)
