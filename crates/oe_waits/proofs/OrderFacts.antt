-- Lists of names in their order: which names stand there, and that all names stand so, each once.
use Rattle.std.proofs.Common.{◌≡◌, ℕ, zero, suc, ◌+◌, ◌-◌, ◌≤◌, ◌<◌, ◌==◌, Bool, true, false, cond, List, [], ◌∷◌, ◌++◌}
use Rattle.std.proofs.Common.{length, map, refl, sym, ap, ◌∙◌, subst, inl, inr, arith, lt-ltb}
use Rattle.std.specs.Prelude.{◌⊎◌, ◌≢◌}
use Rattle.std.specs.List.{filter, All}
use Rattle.std.specs.declared.cmp.Ordering.{Ordering}
use Rattle.std.specs.declared.cmp.Ordering.TheVariants.{Less, Equal, Greater}
use Rattle.std.specs.Ordering.{is_lt, nat_cmp, ordering_then, ordering_reverse}
use Rattle.std.specs.Cmp.{tied_itself, nat_cmp_total}
use Rattle.std.specs.Cmp.Lexicographic.{slice_cmp, nat_list_cmp_total}
use Rattle.std.proofs.lemmas.Bool.{cases_eq, true≢false}
use Rattle.std.proofs.lemmas.List.Elements.{All-head, All-tail}
use Rattle.oe_values.specs.Text.{IsPrintable}
use Rattle.oe_rows.specs.declared.keys.DistrictKey.{DistrictKey}
use Rattle.oe_rows.specs.declared.locks.Name.{Name}
use Rattle.oe_rows.specs.declared.locks.Name.TheVariants.{Warehouse, District, Customer, Order, Queue, Stock, Names}
use Rattle.oe_waits.specs.Names.{last_warehouse, last_district, last_customer, last_order, last_item, lists_to}
use Rattle.oe_waits.specs.Names.{of_warehouses, of_pairs, of_triples, all_names, IsInRanges, place, is_before}
use Rattle.oe_waits.specs.Names.{warehouse_names, district_names, customer_names, order_names, queue_names, stock_names}
use Rattle.oe_waits.specs.Names.{last_name_names, most_letters, printable_bytes, texts_within}

-- the order of places

less_is : (r : Ordering) → is_lt r ≡ true → r ≡ Less
less_is Less e = refl
less_is Equal e = absurd (true≢false (sym e))
less_is Greater e = absurd (true≢false (sym e))

pub before_trans : (a b c : List ℕ) → is_before a b ≡ true → is_before b c ≡ true → is_before a c ≡ true
before_trans a b c e f = ap is_lt (nat_list_cmp_total.trans a b c (less_is _ e) (less_is _ f))

pub before_itself : (a : List ℕ) → is_before a a ≡ false
before_itself a = ap is_lt (tied_itself nat_list_cmp_total a)

pub not_back : (a b : List ℕ) → is_before a b ≡ true → is_before b a ≡ false
not_back a b e =
    ap is_lt (nat_list_cmp_total.antisymm b a) ∙ ap (λ r. is_lt (ordering_reverse r)) (less_is _ e)

-- what is not before one that is not before a third is not before the third
pub not_before : (a b c : List ℕ) → is_before a b ≡ false → is_before b c ≡ false → is_before a c ≡ false
not_before a b c e f = go (slice_cmp nat_cmp a b) refl (slice_cmp nat_cmp a c) refl
  where
    go : (r : Ordering) → slice_cmp nat_cmp a b ≡ r → (s : Ordering) → slice_cmp nat_cmp a c ≡ s
        → is_before a c ≡ false
    go Less h s k = absurd (true≢false (sym (ap is_lt h) ∙ e))
    go Equal h Less k = absurd (true≢false (sym (ap is_lt (sym (nat_list_cmp_total.congr a b c h) ∙ k)) ∙ f))
    go Equal h Equal k = ap is_lt k
    go Equal h Greater k = ap is_lt k
    go Greater h Less k =
        let back : slice_cmp nat_cmp b a ≡ Less = nat_list_cmp_total.antisymm b a ∙ ap ordering_reverse h in
        absurd (true≢false (sym (ap is_lt (nat_list_cmp_total.trans b a c back k)) ∙ f))
    go Greater h Equal k = ap is_lt k
    go Greater h Greater k = ap is_lt k

first_before : (i j : ℕ) (xs ys : List ℕ) → i < j → is_before (i ∷ xs) (j ∷ ys) ≡ true
first_before i j xs ys h =
    ap (λ b. is_lt (ordering_then (cond b Less (cond (i == j) Equal Greater)) (slice_cmp nat_cmp xs ys))) (lt-ltb i j h)

rest_before : (i : ℕ) (xs ys : List ℕ) → is_before xs ys ≡ true → is_before (i ∷ xs) (i ∷ ys) ≡ true
rest_before i xs ys e =
    ap (λ r. is_lt (ordering_then r (slice_cmp nat_cmp xs ys))) (tied_itself nat_cmp_total i) ∙ e

second_before : (k v w : ℕ) (xs ys : List ℕ) → v < w → is_before (k ∷ v ∷ xs) (k ∷ w ∷ ys) ≡ true
second_before k v w xs ys h = rest_before k (v ∷ xs) (w ∷ ys) (first_before v w xs ys h)

third_before : (k w x y : ℕ) (xs ys : List ℕ) → x < y → is_before (k ∷ w ∷ x ∷ xs) (k ∷ w ∷ y ∷ ys) ≡ true
third_before k w x y xs ys h = rest_before k (w ∷ x ∷ xs) (w ∷ y ∷ ys) (second_before w x y xs ys h)

rest_of_three_before : (k w d : ℕ) (xs ys : List ℕ) → is_before xs ys ≡ true
    → is_before (k ∷ w ∷ d ∷ xs) (k ∷ w ∷ d ∷ ys) ≡ true
rest_of_three_before k w d xs ys h =
    rest_before k (w ∷ d ∷ xs) (w ∷ d ∷ ys) (rest_before w (d ∷ xs) (d ∷ ys) (rest_before d xs ys h))

fourth_before : (k w d x y : ℕ) → x < y → is_before (k ∷ w ∷ d ∷ x ∷ []) (k ∷ w ∷ d ∷ y ∷ []) ≡ true
fourth_before k w d x y h = rest_of_three_before k w d (x ∷ []) (y ∷ []) (first_before x y [] [] h)

-- names in the order of their places
abbrev pub comes_before : Name → Name → Bool
comes_before a b = is_before (place a) (place b)

placed : (a b : Name) (p q : List ℕ) → place a ≡ p → place b ≡ q → is_before p q ≡ true → comes_before a b ≡ true
placed a b p q e f h = ap (λ z. is_before z (place b)) e ∙ ap (λ z. is_before p z) f ∙ h

-- what stands on a list

abbrev pub Stands : {A : Type 0} → A → List A → Type 0
Stands x [] = ⊥
Stands x (y ∷ ys) = (x ≡ y) ⊎ Stands x ys

stands_parts : {A : Type 0} (x : A) (xs ys : List A) → Stands x (xs ++ ys) → Stands x xs ⊎ Stands x ys
stands_parts x [] ys m = inr m
stands_parts x (z ∷ xs) ys (inl e) = inl (inl e)
stands_parts x (z ∷ xs) ys (inr m) = elim (stands_parts x xs ys m) [
  | inl l ↦ inl (inr l)
  | inr r ↦ inr r
]

stands_left : {A : Type 0} (x : A) (xs ys : List A) → Stands x xs → Stands x (xs ++ ys)
stands_left x [] ys m = absurd m
stands_left x (z ∷ xs) ys (inl e) = inl e
stands_left x (z ∷ xs) ys (inr m) = inr (stands_left x xs ys m)

stands_right : {A : Type 0} (x : A) (xs ys : List A) → Stands x ys → Stands x (xs ++ ys)
stands_right x [] ys m = m
stands_right x (z ∷ xs) ys m = inr (stands_right x xs ys m)

stands_alone : {A : Type 0} (x y : A) → Stands x (y ∷ []) → x ≡ y
stands_alone x y (inl e) = e
stands_alone x y (inr m) = absurd m

listed : {A : Type 0} (f : ℕ → List A) (n : ℕ) (x : A) → Stands x (lists_to f n)
    → (i : ℕ) × (1 ≤ i) × (i ≤ n) × Stands x (f i)
listed f zero x m = absurd m
listed f (suc n) x m = elim (stands_parts x (lists_to f n) (f (suc n)) m) [
  | inl l ↦ let p = listed f n x l in (p.0, p.1, omega (arith, p.2), p.3)
  | inr r ↦ (suc n, omega arith, omega arith, r)
]

on_lists : {A : Type 0} (f : ℕ → List A) (n i : ℕ) (x : A) → 1 ≤ i → i ≤ n → Stands x (f i) → Stands x (lists_to f n)
on_lists f zero i x low high m = let no : ⊥ = omega (arith, low, high) in absurd no
on_lists f (suc n) i x low high m = elim (cases_eq i (suc n)) [
  | inl same ↦ stands_right x (lists_to f n) (f (suc n)) (subst (λ j. Stands x (f j)) same m)
  | inr other ↦ stands_left x (lists_to f n) (f (suc n)) (on_lists f n i x low (omega (arith, high, other)) m)
]

stands_map : {A B : Type 0} (g : A → B) (x : A) (xs : List A) → Stands x xs → Stands (g x) (map g xs)
stands_map g x (y ∷ xs) (inl e) = inl (ap g e)
stands_map g x (y ∷ xs) (inr m) = inr (stands_map g x xs m)
stands_map g x [] m = m

of_map : {A B : Type 0} (g : A → B) (xs : List A) (y : B) → Stands y (map g xs) → (x : A) × Stands x xs × (y ≡ g x)
of_map g [] y m = absurd m
of_map g (x ∷ xs) y (inl e) = (x, inl refl, e)
of_map g (x ∷ xs) y (inr m) = let p = of_map g xs y m in (p.0, inr p.1, p.2)

pub of_filter : {A : Type 0} (f : A → Bool) (xs : List A) (x : A) → Stands x (filter f xs) → Stands x xs × (f x ≡ true)
of_filter f [] x m = absurd m
of_filter f (y ∷ ys) x m = by_test (f y) refl m (λ k. of_filter f ys x k)
  where
    by_test : (b : Bool) → f y ≡ b → Stands x (cond b (y ∷ filter f ys) (filter f ys))
        → (Stands x (filter f ys) → Stands x ys × (f x ≡ true)) → Stands x (y ∷ ys) × (f x ≡ true)
    by_test true e (inl same) rest = (inl same, ap f same ∙ e)
    by_test true e (inr k) rest = let p = rest k in (inr p.0, p.1)
    by_test false e k rest = let p = rest k in (inr p.0, p.1)

-- lists in their order

-- each is before all behind it
abbrev pub IsOrdered : {A : Type 0} → (A → A → Bool) → List A → Type 0
IsOrdered r [] = Unit {0}
IsOrdered {A} r (x ∷ xs) = ((y : A) → Stands y xs → r x y ≡ true) × IsOrdered r xs

abbrev pub IsSorted : List Name → Type 0
IsSorted = IsOrdered comes_before

module _ {A : Type 0} (r : A → A → Bool) where
  ordered_both : (xs ys : List A) → IsOrdered r xs → IsOrdered r ys
      → ((x y : A) → Stands x xs → Stands y ys → r x y ≡ true) → IsOrdered r (xs ++ ys)
  ordered_both [] ys s t h = t
  ordered_both (x ∷ xs) ys s t h = (
    λ y m. elim (stands_parts y xs ys m) [
      | inl l ↦ s.0 y l
      | inr k ↦ h x y (inl refl) k
    ],
    ordered_both xs ys s.1 t (λ a b m k. h a b (inr m) k),
  )

  ordered_lists : (f : ℕ → List A) (n : ℕ) → ((i : ℕ) → IsOrdered r (f i))
      → ((i j : ℕ) (x y : A) → i < j → Stands x (f i) → Stands y (f j) → r x y ≡ true) → IsOrdered r (lists_to f n)
  ordered_lists f zero s h = tt
  ordered_lists f (suc n) s h = ordered_both (lists_to f n) (f (suc n)) (ordered_lists f n s h) (s (suc n))
      (λ x y m k. let p = listed f n x m in h p.0 (suc n) x y (omega (arith, p.2)) p.3 k)

  ordered_filter : (f : A → Bool) (xs : List A) → IsOrdered r xs → IsOrdered r (filter f xs)
  ordered_filter f [] s = tt
  ordered_filter f (x ∷ xs) s = by_test (f x) (ordered_filter f xs s.1)
    where
      by_test : (b : Bool) → IsOrdered r (filter f xs) → IsOrdered r (cond b (x ∷ filter f xs) (filter f xs))
      by_test true rest = (λ y m. s.0 y ((of_filter f xs y m).0), rest)
      by_test false rest = rest

ordered_map : {A B : Type 0} (r : A → A → Bool) (s : B → B → Bool) (g : A → B)
    → ((x y : A) → r x y ≡ true → s (g x) (g y) ≡ true) → (xs : List A) → IsOrdered r xs → IsOrdered s (map g xs)
ordered_map r s g keeps [] o = tt
ordered_map r s g keeps (x ∷ xs) o = (
  λ y m.
      let p = of_map g xs y m in
      subst (λ z. s (g x) z ≡ true) (sym p.2) (keeps x p.0 (o.0 p.0 p.1)),
  ordered_map r s g keeps xs o.1,
)

-- those of one kind, whose place begins with its number
abbrev pub IsKind : ℕ → List Name → Type 0
IsKind k xs = (q : Name) → Stands q xs → (rest : List ℕ) × (place q ≡ k ∷ rest)

-- one name for each number, with a place that grows
module _ (f : ℕ → Name) (p : ℕ → List ℕ) (is : (i : ℕ) → place (f i) ≡ p i)
    (grows : (i j : ℕ) → i < j → is_before (p i) (p j) ≡ true) (n : ℕ) where
  pub one_of : (q : Name) → Stands q (lists_to (λ i. f i ∷ []) n) → (i : ℕ) × (place q ≡ p i)
  one_of q m = let h = listed (λ i. f i ∷ []) n q m in (h.0, ap place (stands_alone q (f h.0) h.3) ∙ is h.0)

  pub sorted_ones : IsSorted (lists_to (λ i. f i ∷ []) n)
  sorted_ones = ordered_lists comes_before (λ i. f i ∷ []) n (λ i. ((λ y m. absurd m), tt))
      (λ i j x y less m k. placed x y (p i) (p j) (ap place (stands_alone x (f i) m) ∙ is i)
      (ap place (stands_alone y (f j) k) ∙ is j) (grows i j less))

module _ (k : ℕ) (f : ℕ → Name) (is : (w : ℕ) → place (f w) ≡ k ∷ w ∷ 0 ∷ 0 ∷ []) where
  grows : (v w : ℕ) → v < w → is_before (k ∷ v ∷ 0 ∷ 0 ∷ []) (k ∷ w ∷ 0 ∷ 0 ∷ []) ≡ true
  grows v w less = second_before k v w (0 ∷ 0 ∷ []) (0 ∷ 0 ∷ []) less

  sorted_warehouses : IsSorted (of_warehouses f)
  sorted_warehouses = sorted_ones f (λ w. k ∷ w ∷ 0 ∷ 0 ∷ []) is grows last_warehouse

  kind_of_warehouses : IsKind k (of_warehouses f)
  kind_of_warehouses q m =
      let h = one_of f (λ w. k ∷ w ∷ 0 ∷ 0 ∷ []) is grows last_warehouse q m in (h.0 ∷ 0 ∷ 0 ∷ [], h.1)

module _ (k : ℕ) (f : ℕ → ℕ → Name) (n : ℕ) (is : (w x : ℕ) → place (f w x) ≡ k ∷ w ∷ x ∷ 0 ∷ []) where
  pair_grows : (w x y : ℕ) → x < y → is_before (k ∷ w ∷ x ∷ 0 ∷ []) (k ∷ w ∷ y ∷ 0 ∷ []) ≡ true
  pair_grows w x y less = third_before k w x y (0 ∷ []) (0 ∷ []) less

  pair_of : (w : ℕ) (q : Name) → Stands q (lists_to (λ x. f w x ∷ []) n)
      → (x : ℕ) × (place q ≡ k ∷ w ∷ x ∷ 0 ∷ [])
  pair_of w q m = one_of (f w) (λ x. k ∷ w ∷ x ∷ 0 ∷ []) (is w) (pair_grows w) n q m

  sorted_pairs : IsSorted (of_pairs f n)
  sorted_pairs = ordered_lists comes_before (λ w. lists_to (λ x. f w x ∷ []) n) last_warehouse
      (λ w. sorted_ones (f w) (λ x. k ∷ w ∷ x ∷ 0 ∷ []) (is w) (pair_grows w) n)
      (λ v w a b less m h.
      let x = pair_of v a m in
      let y = pair_of w b h in
      placed a b (k ∷ v ∷ x.0 ∷ 0 ∷ []) (k ∷ w ∷ y.0 ∷ 0 ∷ []) x.1 y.1
      (second_before k v w (x.0 ∷ 0 ∷ []) (y.0 ∷ 0 ∷ []) less))

  kind_of_pairs : IsKind k (of_pairs f n)
  kind_of_pairs q m =
      let h = listed (λ w. lists_to (λ x. f w x ∷ []) n) last_warehouse q m in
      let x = pair_of h.0 q h.3 in
      (h.0 ∷ x.0 ∷ 0 ∷ [], x.1)

  on_pairs : (w x : ℕ) → 1 ≤ w → w ≤ last_warehouse → 1 ≤ x → x ≤ n → Stands (f w x) (of_pairs f n)
  on_pairs w x low high low' high' =
      on_lists (λ w. lists_to (λ x. f w x ∷ []) n) last_warehouse w (f w x) low high
      (on_lists (λ x. f w x ∷ []) n x (f w x) low' high' (inl refl))

module _ (k : ℕ) (f : ℕ → ℕ → ℕ → Name) (n : ℕ)
    (is : (w d x : ℕ) → place (f w d x) ≡ k ∷ w ∷ d ∷ x ∷ []) where
  triple_grows : (w d x y : ℕ) → x < y → is_before (k ∷ w ∷ d ∷ x ∷ []) (k ∷ w ∷ d ∷ y ∷ []) ≡ true
  triple_grows w d x y less = fourth_before k w d x y less

  last_of : (w d : ℕ) (q : Name) → Stands q (lists_to (λ x. f w d x ∷ []) n)
      → (x : ℕ) × (place q ≡ k ∷ w ∷ d ∷ x ∷ [])
  last_of w d q m = one_of (f w d) (λ x. k ∷ w ∷ d ∷ x ∷ []) (is w d) (triple_grows w d) n q m

  two_of : (w : ℕ) (q : Name) → Stands q (lists_to (λ d. lists_to (λ x. f w d x ∷ []) n) last_district)
      → (d x : ℕ) × (place q ≡ k ∷ w ∷ d ∷ x ∷ [])
  two_of w q m =
      let h = listed (λ d. lists_to (λ x. f w d x ∷ []) n) last_district q m in
      let x = last_of w h.0 q h.3 in
      (h.0, x.0, x.1)

  sorted_in : (w : ℕ) → IsSorted (lists_to (λ d. lists_to (λ x. f w d x ∷ []) n) last_district)
  sorted_in w = ordered_lists comes_before (λ d. lists_to (λ x. f w d x ∷ []) n) last_district
      (λ d. sorted_ones (f w d) (λ x. k ∷ w ∷ d ∷ x ∷ []) (is w d) (triple_grows w d) n)
      (λ d e a b less m h.
      let x = last_of w d a m in
      let y = last_of w e b h in
      placed a b (k ∷ w ∷ d ∷ x.0 ∷ []) (k ∷ w ∷ e ∷ y.0 ∷ []) x.1 y.1
      (third_before k w d e (x.0 ∷ []) (y.0 ∷ []) less))

  sorted_triples : IsSorted (of_triples f n)
  sorted_triples = ordered_lists comes_before (λ w. lists_to (λ d. lists_to (λ x. f w d x ∷ []) n) last_district)
      last_warehouse sorted_in
      (λ v w a b less m h.
      let x = two_of v a m in
      let y = two_of w b h in
      placed a b (k ∷ v ∷ x.0 ∷ x.1 ∷ []) (k ∷ w ∷ y.0 ∷ y.1 ∷ []) x.2 y.2
      (second_before k v w (x.0 ∷ x.1 ∷ []) (y.0 ∷ y.1 ∷ []) less))

  kind_of_triples : IsKind k (of_triples f n)
  kind_of_triples q m =
      let h = listed (λ w. lists_to (λ d. lists_to (λ x. f w d x ∷ []) n) last_district) last_warehouse q m in
      let x = two_of h.0 q h.3 in
      (h.0 ∷ x.0 ∷ x.1 ∷ [], x.2)

  on_triples : (w d x : ℕ) → 1 ≤ w → w ≤ last_warehouse → 1 ≤ d → d ≤ last_district → 1 ≤ x → x ≤ n
      → Stands (f w d x) (of_triples f n)
  on_triples w d x low high low' high' low'' high'' =
      on_lists (λ w. lists_to (λ d. lists_to (λ x. f w d x ∷ []) n) last_district) last_warehouse w (f w d x) low high
      (on_lists (λ d. lists_to (λ x. f w d x ∷ []) n) last_district d (f w d x) low' high'
      (on_lists (λ x. f w d x ∷ []) n x (f w d x) low'' high'' (inl refl)))

-- texts in their order

-- those of at most n letters and one letter more before them
abbrev texts_from : ℕ → ℕ → List (List ℕ)
texts_from n i = map (λ t. (31 + i) ∷ t) (texts_within n)

few_printable : (b : ℕ) → IsPrintable b → b - 31 ≤ printable_bytes
unfolding printable_bytes
few_printable b h = omega (arith, h)

texts_ordered : (n : ℕ) → IsOrdered is_before (texts_within n)
texts_ordered zero = (λ t m. absurd m, tt)
texts_ordered (suc n) = (
  λ t m.
      let p = listed (texts_from n) printable_bytes t m in
      let q = of_map (λ u. (31 + p.0) ∷ u) (texts_within n) t p.3 in
      ap (is_before []) q.2,
  ordered_lists is_before (texts_from n) printable_bytes
      (λ i. ordered_map is_before is_before (λ t. (31 + i) ∷ t) (λ t u h. rest_before (31 + i) t u h) (texts_within n)
      (texts_ordered n))
      (λ i j t u less m k.
      let p = of_map (λ v. (31 + i) ∷ v) (texts_within n) t m in
      let q = of_map (λ v. (31 + j) ∷ v) (texts_within n) u k in
      ap (λ z. is_before z u) p.2
      ∙ (ap (λ z. is_before ((31 + i) ∷ p.0) z) q.2
      ∙ first_before (31 + i) (31 + j) p.0 q.0 (omega (arith, less)))),
)

text_stands : (n : ℕ) (t : List ℕ) → length t ≤ n → All IsPrintable t → Stands t (texts_within n)
text_stands zero [] short are = inl refl
text_stands (suc n) [] short are = inl refl
text_stands zero (b ∷ t) short are = let no : ⊥ = omega (arith, short) in absurd no
text_stands (suc n) (b ∷ t) short are =
    let first = All-head IsPrintable b t are in
    let same : 31 + (b - 31) ≡ b = omega (arith, first) in
    inr (on_lists (texts_from n) printable_bytes (b - 31) (b ∷ t) (omega (arith, first)) (few_printable b first)
    (subst (λ c. Stands (b ∷ t) (map (λ u. c ∷ u) (texts_within n))) (sym same)
    (stands_map (λ u. b ∷ u) t (texts_within n)
    (text_stands n t (omega (arith, short)) (All-tail IsPrintable b t are)))))

-- the last names of a district, and of a warehouse
abbrev names_of : ℕ → ℕ → List Name
names_of w d = map (Names (record { warehouse = w; district = d })) (texts_within most_letters)

abbrev names_in : ℕ → List Name
names_in w = lists_to (names_of w) last_district

place_of : (w d : ℕ) (q : Name) → Stands q (names_of w d) → (t : List ℕ) × (place q ≡ 7 ∷ w ∷ d ∷ t)
place_of w d q m =
    let p = of_map (Names (record { warehouse = w; district = d })) (texts_within most_letters) q m in
    (p.0, ap place p.2)

place_in : (w : ℕ) (q : Name) → Stands q (names_in w) → (d : ℕ) × (t : List ℕ) × (place q ≡ 7 ∷ w ∷ d ∷ t)
place_in w q m =
    let h = listed (names_of w) last_district q m in
    let t = place_of w h.0 q h.3 in
    (h.0, t.0, t.1)

names_sorted_in : (w : ℕ) → IsSorted (names_in w)
names_sorted_in w = ordered_lists comes_before (names_of w) last_district
    (λ d. ordered_map is_before comes_before (Names (record { warehouse = w; district = d }))
    (λ t u h. rest_of_three_before 7 w d t u h) (texts_within most_letters) (texts_ordered most_letters))
    (λ d e a b less m h.
    let x = place_of w d a m in
    let y = place_of w e b h in
    placed a b (7 ∷ w ∷ d ∷ x.0) (7 ∷ w ∷ e ∷ y.0) x.1 y.1 (third_before 7 w d e x.0 y.0 less))

sorted_last_names : IsSorted last_name_names
sorted_last_names = ordered_lists comes_before names_in last_warehouse names_sorted_in
    (λ v w a b less m h.
    let x = place_in v a m in
    let y = place_in w b h in
    placed a b (7 ∷ v ∷ x.0 ∷ x.1) (7 ∷ w ∷ y.0 ∷ y.1) x.2 y.2 (second_before 7 v w (x.0 ∷ x.1) (y.0 ∷ y.1) less))

kind_of_last_names : IsKind 7 last_name_names
kind_of_last_names q m =
    let h = listed names_in last_warehouse q m in
    let x = place_in h.0 q h.3 in
    (h.0 ∷ x.0 ∷ x.1, x.2)

on_last_names : (k : DistrictKey) (t : List ℕ) → IsInRanges (Names k t) → Stands (Names k t) last_name_names
on_last_names k t h =
    on_lists names_in last_warehouse k.warehouse (Names k t) h.0.0 h.0.1
    (on_lists (names_of k.warehouse) last_district k.district (Names k t) h.1.0 h.1.1
    (stands_map (Names k) t (texts_within most_letters) (text_stands most_letters t h.2.at_most h.2.printable)))

-- names in their order, of kinds below one
abbrev pub IsUpTo : ℕ → List Name → Type 0
IsUpTo k xs =
    IsSorted xs × ((q : Name) → Stands q xs → (i : ℕ) × (rest : List ℕ) × (place q ≡ i ∷ rest) × (i < k))

first_kind : (k : ℕ) (xs : List Name) → IsSorted xs → IsKind k xs → IsUpTo (suc k) xs
first_kind k xs s h = (s, λ q m. let p = h q m in (k, p.0, p.1, omega arith))

next_kind : (k : ℕ) (xs ys : List Name) → IsUpTo k xs → IsSorted ys → IsKind k ys → IsUpTo (suc k) (xs ++ ys)
next_kind k xs ys s t h = (
  ordered_both comes_before xs ys s.0 t (λ x y m r.
      let p = s.1 x m in
      let q = h y r in
      placed x y (p.0 ∷ p.1) (k ∷ q.0) p.2 q.1 (first_before p.0 k p.1 q.0 p.3)),
  λ q m. elim (stands_parts q xs ys m) [
    | inl l ↦ let p = s.1 q l in (p.0, p.1, p.2, omega (arith, p.3))
    | inr r ↦ let p = h q r in (k, p.0, p.1, omega arith)
  ],
)

pub all_sorted : IsSorted all_names
unfolding all_names
all_sorted =
    let warehouses = first_kind 1 _
    (sorted_warehouses 1 (λ w. Warehouse (record { warehouse = w })) (λ w. refl))
    (kind_of_warehouses 1 (λ w. Warehouse (record { warehouse = w })) (λ w. refl)) in
    let districts = next_kind 2 _ _ warehouses
    (sorted_pairs 2 (λ w d. District (record { warehouse = w; district = d })) last_district (λ w d. refl))
    (kind_of_pairs 2 (λ w d. District (record { warehouse = w; district = d })) last_district (λ w d. refl)) in
    let customers = next_kind 3 _ _ districts
    (sorted_triples 3 (λ w d c. Customer (record { warehouse = w; district = d; customer = c })) last_customer
    (λ w d c. refl))
    (kind_of_triples 3 (λ w d c. Customer (record { warehouse = w; district = d; customer = c })) last_customer
    (λ w d c. refl)) in
    let orders = next_kind 4 _ _ customers
    (sorted_triples 4 (λ w d o. Order (record { warehouse = w; district = d; order = o })) last_order (λ w d o. refl))
    (kind_of_triples 4 (λ w d o. Order (record { warehouse = w; district = d; order = o })) last_order
    (λ w d o. refl)) in
    let queues = next_kind 5 _ _ orders
    (sorted_pairs 5 (λ w d. Queue (record { warehouse = w; district = d })) last_district (λ w d. refl))
    (kind_of_pairs 5 (λ w d. Queue (record { warehouse = w; district = d })) last_district (λ w d. refl)) in
    let stocks = next_kind 6 _ _ queues
    (sorted_pairs 6 (λ w i. Stock (record { warehouse = w; item = i })) last_item (λ w i. refl))
    (kind_of_pairs 6 (λ w i. Stock (record { warehouse = w; item = i })) last_item (λ w i. refl)) in
    let last_names = next_kind 7 _ _ stocks sorted_last_names kind_of_last_names in
    last_names.0

-- each name stands among all

module _ (q : Name) (a b c d e f g : List Name) where
  in_seventh : Stands q g → Stands q (a ++ b ++ c ++ d ++ e ++ f ++ g)
  in_seventh m = stands_right q (a ++ b ++ c ++ d ++ e ++ f) g m

  in_six : Stands q (a ++ b ++ c ++ d ++ e ++ f) → Stands q (a ++ b ++ c ++ d ++ e ++ f ++ g)
  in_six m = stands_left q (a ++ b ++ c ++ d ++ e ++ f) g m

  in_sixth : Stands q f → Stands q (a ++ b ++ c ++ d ++ e ++ f ++ g)
  in_sixth m = in_six (stands_right q (a ++ b ++ c ++ d ++ e) f m)

  in_five : Stands q (a ++ b ++ c ++ d ++ e) → Stands q (a ++ b ++ c ++ d ++ e ++ f ++ g)
  in_five m = in_six (stands_left q (a ++ b ++ c ++ d ++ e) f m)

  in_fifth : Stands q e → Stands q (a ++ b ++ c ++ d ++ e ++ f ++ g)
  in_fifth m = in_five (stands_right q (a ++ b ++ c ++ d) e m)

  in_four : Stands q (a ++ b ++ c ++ d) → Stands q (a ++ b ++ c ++ d ++ e ++ f ++ g)
  in_four m = in_five (stands_left q (a ++ b ++ c ++ d) e m)

  in_fourth : Stands q d → Stands q (a ++ b ++ c ++ d ++ e ++ f ++ g)
  in_fourth m = in_four (stands_right q (a ++ b ++ c) d m)

  in_three : Stands q (a ++ b ++ c) → Stands q (a ++ b ++ c ++ d ++ e ++ f ++ g)
  in_three m = in_four (stands_left q (a ++ b ++ c) d m)

  in_third : Stands q c → Stands q (a ++ b ++ c ++ d ++ e ++ f ++ g)
  in_third m = in_three (stands_right q (a ++ b) c m)

  in_second : Stands q b → Stands q (a ++ b ++ c ++ d ++ e ++ f ++ g)
  in_second m = in_three (stands_left q (a ++ b) c (stands_right q a b m))

  in_first : Stands q a → Stands q (a ++ b ++ c ++ d ++ e ++ f ++ g)
  in_first m = in_three (stands_left q (a ++ b) c (stands_left q a b m))

pub is_among_all : (q : Name) → IsInRanges q → Stands q all_names
unfolding all_names
is_among_all (Warehouse k) h =
    in_first (Warehouse k) warehouse_names district_names customer_names order_names queue_names stock_names
    last_name_names (on_lists (λ w. Warehouse (record { warehouse = w }) ∷ []) last_warehouse k.warehouse (Warehouse k)
    h.0 h.1 (inl refl))
is_among_all (District k) h =
    in_second (District k) warehouse_names district_names customer_names order_names queue_names stock_names
    last_name_names (on_pairs 2 (λ w d. District (record { warehouse = w; district = d })) last_district (λ w d. refl)
    k.warehouse k.district h.0.0 h.0.1 h.1.0 h.1.1)
is_among_all (Customer k) h =
    in_third (Customer k) warehouse_names district_names customer_names order_names queue_names stock_names
    last_name_names (on_triples 3 (λ w d c. Customer (record { warehouse = w; district = d; customer = c }))
    last_customer (λ w d c. refl)
    k.warehouse k.district k.customer h.0.0 h.0.1 h.1.0 h.1.1 h.2.0 h.2.1)
is_among_all (Order k) h =
    in_fourth (Order k) warehouse_names district_names customer_names order_names queue_names stock_names
    last_name_names (on_triples 4 (λ w d o. Order (record { warehouse = w; district = d; order = o })) last_order
    (λ w d o. refl)
    k.warehouse k.district k.order h.0.0 h.0.1 h.1.0 h.1.1 h.2.0 h.2.1)
is_among_all (Queue k) h =
    in_fifth (Queue k) warehouse_names district_names customer_names order_names queue_names stock_names
    last_name_names (on_pairs 5 (λ w d. Queue (record { warehouse = w; district = d })) last_district (λ w d. refl)
    k.warehouse k.district h.0.0 h.0.1 h.1.0 h.1.1)
is_among_all (Stock k) h =
    in_sixth (Stock k) warehouse_names district_names customer_names order_names queue_names stock_names
    last_name_names (on_pairs 6 (λ w i. Stock (record { warehouse = w; item = i })) last_item (λ w i. refl)
    k.warehouse k.item h.0.0 h.0.1 h.1.0 h.1.1)
is_among_all (Names k last) h =
    in_seventh (Names k last) warehouse_names district_names customer_names order_names queue_names stock_names
    last_name_names (on_last_names k last h)

-- a list in its order is no longer than one on which all of it stands

abbrev without : {A : Type 0} (x : A) (xs : List A) → Stands x xs → List A
without x [] m = []
without x (y ∷ ys) (inl e) = ys
without x (y ∷ ys) (inr m) = y ∷ without x ys m

one_less : {A : Type 0} (x : A) (xs : List A) (m : Stands x xs) → suc (length (without x xs m)) ≡ length xs
one_less x [] m = absurd m
one_less x (y ∷ ys) (inl e) = refl
one_less x (y ∷ ys) (inr m) = ap suc (one_less x ys m)

still : {A : Type 0} (x y : A) (xs : List A) (m : Stands x xs) → y ≢ x → Stands y xs → Stands y (without x xs m)
still x y [] m other k = absurd k
still x y (z ∷ zs) (inl e) other (inl same) = absurd (other (same ∙ sym e))
still x y (z ∷ zs) (inl e) other (inr k) = k
still x y (z ∷ zs) (inr m) other (inl same) = inl same
still x y (z ∷ zs) (inr m) other (inr k) = inr (still x y zs m other k)

pub no_longer : (xs ys : List Name) → IsSorted xs → ((q : Name) → Stands q xs → Stands q ys) → length xs ≤ length ys
no_longer [] ys s on = omega arith
no_longer (x ∷ xs) ys s on =
    let here = on x (inl refl) in
    let fewer = no_longer xs (without x ys here) s.1
    (λ q m. still x q ys here (λ same. true≢false (sym (s.0 q m) ∙ ap (λ z. is_before (place x) (place z)) same
    ∙ before_itself (place x))) (on q (inr m))) in
    let less = one_less x ys here in
    omega (arith, fewer, less)

pub sorted_filter : (f : Name → Bool) (xs : List Name) → IsSorted xs → IsSorted (filter f xs)
sorted_filter f xs s = ordered_filter comes_before f xs s
