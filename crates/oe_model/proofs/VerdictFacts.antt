-- An audit's test of a row is its condition there, and its verdict is exact.
use Rattle.std.proofs.Common.{◌≡◌, ℕ, ◌+◌, ◌-◌, ◌↔◌, refl, sym, ◌∙◌, ap, subst, Bool, true, false, List, [], ◌∷◌, map}
use Rattle.std.proofs.Common.{Option, Some, None, inl, inr, arith}
use Rattle.std.specs.Prelude.{◌⊎◌, ◌||◌, ◌==◌, IsSome, is_none}
use Rattle.std.specs.List.{list_any}
use Rattle.std.specs.declared.cmp.Ordering.{Ordering}
use Rattle.std.specs.Cmp.{IsTotalOrder}
use Rattle.std.specs.Ordering.{eq_by_cmp}
use Rattle.std.specs.FinMap.{FinMap, IsAntisymmetric, get, entries, retain_keys}
use Rattle.std.proofs.lemmas.Bool.{eq-eqb, eqb-true, and_parts, and_from}
use Rattle.std.proofs.lemmas.Bool.Decides.{Decides-int_eq}
use Rattle.oe_rows.specs.Key.{district_cmp}
use Rattle.oe_rows.specs.declared.keys.WarehouseKey.{WarehouseKey}
use Rattle.oe_rows.specs.declared.keys.DistrictKey.{DistrictKey}
use Rattle.oe_rows.specs.declared.keys.CustomerKey.{CustomerKey}
use Rattle.oe_rows.specs.declared.keys.OrderKey.{OrderKey}
use Rattle.oe_rows.specs.declared.keys.OrderLineKey.{OrderLineKey}
use Rattle.oe_rows.specs.declared.keys.Key.{Key}
use Rattle.oe_rows.specs.declared.keys.Key.TheVariants as key
use Rattle.oe_rows.specs.declared.districts.District.{District}
use Rattle.oe_rows.specs.declared.orders.Order.{Order}
use Rattle.oe_rows.specs.declared.orders.OrderLine.{OrderLine}
use Rattle.oe_rows.proofs.KeyFacts.{warehouse_total, exact_warehouse, district_total, exact_district, customer_total}
use Rattle.oe_rows.proofs.KeyFacts.{exact_customer, new_order_total, exact_new_order, order_total, exact_order}
use Rattle.oe_rows.proofs.KeyFacts.{order_line_total, exact_order_line}
use Rattle.oe_model.specs.Keys.{district_of_order, district_of_new_order, order_of_line, order_in, new_order_in}
use Rattle.oe_model.specs.Rows.{Rows}
use Rattle.oe_model.specs.Conditions.{IsAfterGreatest, HasOrder, HasNewOrder, new_orders_of, Condition_1_at}
use Rattle.oe_model.specs.Conditions.{Condition_2_at, Condition_3_at, Condition_4_at}
use Rattle.oe_model.specs.FurtherConditions.{Condition_5_at, Condition_6_at, Condition_7_at, Condition_8_at}
use Rattle.oe_model.specs.FurtherConditions.{Condition_9_at, Condition_10_at, Condition_12_at}
use Rattle.oe_model.specs.Audits.{Condition, First, Second, Third, Fourth, Fifth, Sixth, Seventh, Eighth, Ninth, Tenth}
use Rattle.oe_model.specs.Audits.{Twelfth, Holds, Fails, first_failing, verdict_of, greatest, least, none_or, some_and}
use Rattle.oe_model.specs.Audits.{order_numbers, new_order_numbers, agree, is_dated_as, passes_1, passes_2, passes_3}
use Rattle.oe_model.specs.Audits.{passes_4, passes_5, passes_6, passes_7, passes_8, passes_9, passes_10, passes_12}
use Rattle.oe_model.specs.Audits.{verdict}
use Rattle.oe_model.specs.Verdicts.{IsFirstFailing, IsMet, IsFirstRow, Tests_are_conditions, Verdicts_are_exact}
use Rattle.oe_model.proofs.MapFacts.{is_same, is_self}
use Rattle.oe_model.proofs.PresenceFacts.{some_present, present_some}
use Rattle.oe_model.specs.Lists.{IsAmong}
use Rattle.oe_model.proofs.EntryFacts.{EachOf, kept_at, among_kept}
use Rattle.oe_model.proofs.FirstFacts.{none_fails, one_fails, greatest_is, greatest_found, least_is, least_found}
use Rattle.oe_model.proofs.FirstFacts.{none_is_empty}

-- the numbers of a district's rows are those under which it has a row
module _ {K X : Type 0} {R : K → K → Ordering} (o : IsTotalOrder R) (exact : IsAntisymmetric R)
    (district : K → DistrictKey) (number : K → ℕ) (at : ℕ → K)
    (h : DistrictKey) (at_is : (k : K) → district k ≡ h → k ≡ at (number k)) (number_is : (i : ℕ) → number (at i) ≡ i)
    (district_is : (i : ℕ) → district (at i) ≡ h) (m : FinMap R X) where
  abbrev own : K → Bool
  own k = eq_by_cmp district_cmp (district k) h

  abbrev Has : ℕ → Type 0
  Has i = IsSome (get m (at i))

  abbrev numbers : List ℕ
  numbers = map (λ e. number e.0) (entries (retain_keys m own))

  pub each_number : EachOf Has numbers
  each_number = along (entries (retain_keys m own)) (kept_at o exact m own)
    where
      along : (es : List (K × X)) → EachOf (λ e. (own e.0 ≡ true) × (get m e.0 ≡ Some e.1)) es
          → EachOf Has (map (λ e. number e.0) es)
      along [] a = tt
      along (e ∷ es) a =
          let there = at_is e.0 (is_same district_total exact_district (district e.0) h a.0.0) in
          (some_present (get m (at (number e.0))) e.1 (ap (get m) (sym there) ∙ a.0.1), along es a.1)

  pub all_numbers : (i : ℕ) → Has i → IsAmong i numbers
  all_numbers i p =
      let row = present_some (get m (at i)) p in
      along (entries (retain_keys m own))
      (among_kept o exact m own (at i) row.0 row.1 ∙ ap (λ g. eq_by_cmp district_cmp g h) (district_is i)
      ∙ is_self district_total exact_district h)
    where
      along : (es : List (K × X)) → list_any (eq_by_cmp R (at i)) (map (λ e. e.0) es) ≡ true
          → IsAmong i (map (λ e. number e.0) es)
      along [] e = let no : ⊥ = cc in absurd no
      along (d ∷ es) e = by_test (eq_by_cmp R (at i) d.0) refl e (along es)
        where
          by_test : (b : Bool) → eq_by_cmp R (at i) d.0 ≡ b
              → (b || list_any (eq_by_cmp R (at i)) (map (λ e. e.0) es)) ≡ true
              → (list_any (eq_by_cmp R (at i)) (map (λ e. e.0) es) ≡ true → IsAmong i (map (λ e. number e.0) es))
              → (number d.0 ≡ i) ⊎ IsAmong i (map (λ e. number e.0) es)
          by_test true t e rest = inl (ap number (sym (is_same o exact (at i) d.0 t)) ∙ number_is i)
          by_test false t e rest = inr (rest e)

module _ (r : Rows) (h : DistrictKey) where
  each_order : EachOf (HasOrder r h) (order_numbers h r.orders)
  each_order = each_number order_total exact_order district_of_order (λ k. k.order) (order_in h) h
      (λ k e i. order_in (e i) k.order) (λ i. refl) (λ i. refl) r.orders

  all_orders : (i : ℕ) → HasOrder r h i → IsAmong i (order_numbers h r.orders)
  all_orders = all_numbers order_total exact_order district_of_order (λ k. k.order) (order_in h) h
      (λ k e i. order_in (e i) k.order) (λ i. refl) (λ i. refl) r.orders

  each_new_order : EachOf (HasNewOrder r h) (new_order_numbers h r.new_orders)
  each_new_order = each_number new_order_total exact_new_order district_of_new_order (λ k. k.order) (new_order_in h) h
      (λ k e i. new_order_in (e i) k.order) (λ i. refl) (λ i. refl) r.new_orders

  all_new_orders : (i : ℕ) → HasNewOrder r h i → IsAmong i (new_order_numbers h r.new_orders)
  all_new_orders = all_numbers new_order_total exact_new_order district_of_new_order (λ k. k.order) (new_order_in h) h
      (λ k e i. new_order_in (e i) k.order) (λ i. refl) (λ i. refl) r.new_orders

  second : (x : District) → (passes_2 r h x ≡ true) ↔ Condition_2_at r h x
  second x = (
    λ e.
        let t = and_parts (some_and (greatest (order_numbers h r.orders)) is_next)
        (none_or (greatest (new_order_numbers h r.new_orders)) is_next) e in
        record {
          orders = is_last (greatest (order_numbers h r.orders)) refl t.0;
          new_orders = λ i p. is_last_new i p (greatest (new_order_numbers h r.new_orders)) refl t.1;
        },
    λ c.
        and_from (some_and (greatest (order_numbers h r.orders)) is_next) _
        (ap (λ v. some_and v is_next)
        (greatest_found (HasOrder r h) (order_numbers h r.orders) each_order all_orders c.orders.0 c.orders.2)
        ∙ eq-eqb _ _ c.orders.1)
        (passes (greatest (new_order_numbers h r.new_orders)) refl c.new_orders),
  )
    where
      is_next : ℕ → Bool
      is_next n = x.next_order == n + 1

      is_last : (v : Option ℕ) → greatest (order_numbers h r.orders) ≡ v → some_and v is_next ≡ true
          → IsAfterGreatest (HasOrder r h) x.next_order
      is_last None s e = let no : ⊥ = cc in absurd no
      is_last (Some n) s e = (
        n,
        eqb-true x.next_order (n + 1) e,
        greatest_is (HasOrder r h) (order_numbers h r.orders) each_order
            all_orders n s,
      )

      is_last_new : (i : ℕ) → HasNewOrder r h i → (v : Option ℕ) → greatest (new_order_numbers h r.new_orders) ≡ v
          → none_or v is_next ≡ true → IsAfterGreatest (HasNewOrder r h) x.next_order
      is_last_new i p None s e =
          absurd (none_is_empty (HasNewOrder r h) (new_order_numbers h r.new_orders) each_new_order all_new_orders i s
          p)
      is_last_new i p (Some n) s e = (
        n,
        eqb-true x.next_order (n + 1) e,
        greatest_is (HasNewOrder r h) (new_order_numbers h r.new_orders)
            each_new_order all_new_orders n s,
      )

      passes : (v : Option ℕ) → greatest (new_order_numbers h r.new_orders) ≡ v
          → ((i : ℕ) → HasNewOrder r h i → IsAfterGreatest (HasNewOrder r h) x.next_order) → none_or v is_next ≡ true
      passes None s c = refl
      passes (Some n) s c =
          let g = greatest_is (HasNewOrder r h) (new_order_numbers h r.new_orders) each_new_order all_new_orders n s in
          let t = c n g.0 in
          let a = t.2.1 n g.0 in
          let b = g.1 t.0 t.2.0 in
          let e = t.1 in
          eq-eqb x.next_order (n + 1) (omega arith)

  third : (x : District) → (passes_3 r h x ≡ true) ↔ Condition_3_at r h
  third x = (
    λ e g l most last.
        let a = greatest_found (HasNewOrder r h) (new_order_numbers h r.new_orders) each_new_order all_new_orders g
        most in
        let b = least_found (HasNewOrder r h) (new_order_numbers h r.new_orders) each_new_order all_new_orders l last in
        eqb-true _ _ ((λ i. none_or (sym a i) (λ n. none_or (sym b i) (is_count n))) ∙ e),
    λ c. passes (greatest (new_order_numbers h r.new_orders)) (least (new_order_numbers h r.new_orders)) refl refl c,
  )
    where
      is_count : ℕ → ℕ → Bool
      is_count n m = n - m + 1 == new_orders_of r h

      passes : (v u : Option ℕ) → greatest (new_order_numbers h r.new_orders) ≡ v
          → least (new_order_numbers h r.new_orders) ≡ u → Condition_3_at r h
          → none_or v (λ n. none_or u (is_count n)) ≡ true
      passes None u s t c = refl
      passes (Some n) None s t c = refl
      passes (Some n) (Some m) s t c =
          eq-eqb (n - m + 1) (new_orders_of r h)
          (c n m (greatest_is (HasNewOrder r h) (new_order_numbers h r.new_orders) each_new_order all_new_orders n s)
          (least_is (HasNewOrder r h) (new_order_numbers h r.new_orders) each_new_order all_new_orders m t))

-- two tests agree exactly where what they test is equivalent
agree_is : {P Q : Type 0} (a b : Bool) → (a ≡ true) ↔ P → (b ≡ true) ↔ Q → (agree a b ≡ true) ↔ (P ↔ Q)
agree_is true true p q = (λ _. (λ _. q.0 refl, λ _. p.0 refl), λ _. refl)
agree_is true false p q = (λ e. let no : ⊥ = cc in absurd no, λ h. q.1 (h.0 (p.0 refl)))
agree_is false true p q = (λ e. let no : ⊥ = cc in absurd no, λ h. p.1 (h.1 (q.0 refl)))
agree_is false false p q = (
  λ _. (λ x. let e = p.1 x in let no : ⊥ = cc in absurd no, λ y. let e = q.1 y in let no : ⊥ = cc in absurd no),
  λ _. refl,
)

none_is : {A : Type 0} (o : Option A) → (is_none o ≡ true) ↔ (o ≡ None)
none_is None = (λ _. refl, λ _. refl)
none_is (Some x) = (λ e. let no : ⊥ = cc in absurd no, λ e. let no : ⊥ = cc in absurd no)

dated_is : (y : OrderLine) (v : Option Order)
    → (is_dated_as y v ≡ true) ↔ ((x : Order) → v ≡ Some x → (y.delivery ≡ None) ↔ (x.carrier ≡ None))
dated_is y None = (λ _ x e. let no : ⊥ = cc in absurd no, λ _. refl)
dated_is y (Some z) =
    let t = agree_is (is_none y.delivery) (is_none z.carrier) (none_is y.delivery) (none_is z.carrier) in (
      λ a x e. let same : z ≡ x = cc in subst (λ (w : Order). (y.delivery ≡ None) ↔ (w.carrier ≡ None)) same (t.0 a),
      λ h. t.1 (h z refl),
    )

pub tests_are_conditions : Tests_are_conditions
tests_are_conditions = record {
  first = λ r w x. (λ e. eqb-true _ _ e, λ e. eq-eqb _ _ e);
  second = second;
  third = third;
  fourth = λ r h x. (λ e. eqb-true _ _ e, λ e. eq-eqb _ _ e);
  fifth = λ r k x. agree_is (is_none x.carrier) _ (none_is x.carrier) (λ e. e, λ e. e);
  sixth = λ r k x. (λ e. eqb-true _ _ e, λ e. eq-eqb _ _ e);
  seventh = λ r l y. dated_is y (get r.orders (order_of_line l));
  eighth = λ r w x. (λ e. eqb-true _ _ e, λ e. eq-eqb _ _ e);
  ninth = λ r h x. (λ e. eqb-true _ _ e, λ e. eq-eqb _ _ e);
  tenth = λ r c x. Decides-int_eq _ _;
  twelfth = λ r c x. Decides-int_eq _ _;
}

-- a verdict of the first row that fails
module _ {K : Type 0} (at : K → Key) where
  judged_holds : (v : Option K) → (verdict_of at v ≡ Holds) ↔ (v ≡ None)
  judged_holds None = (λ e. refl, λ e. refl)
  judged_holds (Some k) = (λ e. cc, λ e. let no : ⊥ = cc in absurd no)

  judged_fails : (v : Option K) (q : Key) → verdict_of at v ≡ Fails q → (k : K) × (at k ≡ q) × (v ≡ Some k)
  judged_fails None q e = let no : ⊥ = cc in absurd no
  judged_fails (Some k) q e = (k, let same : at k ≡ q = cc in same, refl)

module _ {K X : Type 0} {R : K → K → Ordering} (o : IsTotalOrder R) (exact : IsAntisymmetric R) (at : K → Key)
    (same : (j k : K) → at j ≡ at k → j ≡ k)
    (test : K → X → Bool) (P : K → X → Type 0) (is : (k : K) (x : X) → (test k x ≡ true) ↔ P k x) (m : FinMap R X) where
  rows_hold : (verdict_of at (first_failing test m) ≡ Holds) ↔ ((k : K) (x : X) → get m k ≡ Some x → P k x)
  rows_hold =
      let none = none_fails o exact test P is m in
      (λ e. none.0 ((judged_holds at (first_failing test m)).0 e), λ h. ap (verdict_of at) (none.1 h))

  row_fails : (k : K) → (verdict_of at (first_failing test m) ≡ Fails (at k)) ↔ IsFirstFailing P m k
  row_fails k =
      let one = one_fails o exact test P is m k in (
        λ e. let t = judged_fails at (first_failing test m) (at k) e in
            one.0 (t.2 ∙ ap Some (same t.0 k t.1)),
        λ f. ap (verdict_of at) (one.1 f),
      )

same_warehouse : (j k : WarehouseKey) → key.Warehouse j ≡ key.Warehouse k → j ≡ k
same_warehouse j k e = cc

same_district : (j k : DistrictKey) → key.District j ≡ key.District k → j ≡ k
same_district j k e = cc

same_order : (j k : OrderKey) → key.Order j ≡ key.Order k → j ≡ k
same_order j k e = cc

same_line : (j k : OrderLineKey) → key.OrderLine j ≡ key.OrderLine k → j ≡ k
same_line j k e = cc

same_customer : (j k : CustomerKey) → key.Customer j ≡ key.Customer k → j ≡ k
same_customer j k e = cc

-- of each row, or of each key that has one
pub with_row : {K X : Type 0} {R : K → K → Ordering} {Q : Type 0} (P : K → Type 0) (m : FinMap R X)
    → (Q ↔ ((k : K) (x : X) → get m k ≡ Some x → P k)) → Q ↔ ((k : K) → IsSome (get m k) → P k)
with_row P m t = (
  λ q k i. let row = present_some (get m k) i in
      t.0 q k row.0 row.1,
  λ h. t.1 (λ k x e. h k (some_present (get m k) x e)),
)

verdicts_hold : (c : Condition) (r : Rows) → (verdict c r ≡ Holds) ↔ IsMet c r
verdicts_hold First r = rows_hold warehouse_total exact_warehouse key.Warehouse same_warehouse (passes_1 r)
    (Condition_1_at r) (tests_are_conditions.first r) r.warehouses
verdicts_hold Second r = rows_hold district_total exact_district key.District same_district (passes_2 r)
    (Condition_2_at r) (second r) r.districts
verdicts_hold Third r = with_row (Condition_3_at r) r.districts
    (rows_hold district_total exact_district key.District same_district (passes_3 r) (λ h x. Condition_3_at r h)
    (third r) r.districts)
verdicts_hold Fourth r = with_row (Condition_4_at r) r.districts
    (rows_hold district_total exact_district key.District same_district (passes_4 r) (λ h x. Condition_4_at r h)
    (tests_are_conditions.fourth r) r.districts)
verdicts_hold Fifth r = rows_hold order_total exact_order key.Order same_order (passes_5 r) (Condition_5_at r)
    (tests_are_conditions.fifth r) r.orders
verdicts_hold Sixth r = rows_hold order_total exact_order key.Order same_order (passes_6 r) (Condition_6_at r)
    (tests_are_conditions.sixth r) r.orders
verdicts_hold Seventh r = rows_hold order_line_total exact_order_line key.OrderLine same_line (passes_7 r)
    (Condition_7_at r) (tests_are_conditions.seventh r) r.order_lines
verdicts_hold Eighth r = rows_hold warehouse_total exact_warehouse key.Warehouse same_warehouse (passes_8 r)
    (Condition_8_at r) (tests_are_conditions.eighth r) r.warehouses
verdicts_hold Ninth r = rows_hold district_total exact_district key.District same_district (passes_9 r)
    (Condition_9_at r) (tests_are_conditions.ninth r) r.districts
verdicts_hold Tenth r = rows_hold customer_total exact_customer key.Customer same_customer (passes_10 r)
    (Condition_10_at r) (tests_are_conditions.tenth r) r.customers
verdicts_hold Twelfth r = rows_hold customer_total exact_customer key.Customer same_customer (passes_12 r)
    (Condition_12_at r) (tests_are_conditions.twelfth r) r.customers

verdicts_fail : (c : Condition) (r : Rows) (q : Key) → (verdict c r ≡ Fails q) ↔ IsFirstRow c r q
verdicts_fail First r (key.Warehouse w) = row_fails warehouse_total exact_warehouse key.Warehouse same_warehouse
    (passes_1 r) (Condition_1_at r) (tests_are_conditions.first r) r.warehouses w
verdicts_fail First r q = (
  λ e. let t = judged_fails key.Warehouse (first_failing (passes_1 r) r.warehouses) q e in
      let z = t.1 in let no : ⊥ = cc in no,
  λ f. absurd f,
)
verdicts_fail Second r (key.District h) = row_fails district_total exact_district key.District same_district
    (passes_2 r) (Condition_2_at r) (second r) r.districts h
verdicts_fail Second r q = (
  λ e. let t = judged_fails key.District (first_failing (passes_2 r) r.districts) q e in
      let z = t.1 in let no : ⊥ = cc in no,
  λ f. absurd f,
)
verdicts_fail Third r (key.District h) = row_fails district_total exact_district key.District same_district (passes_3 r)
    (λ h x. Condition_3_at r h) (third r) r.districts h
verdicts_fail Third r q = (
  λ e. let t = judged_fails key.District (first_failing (passes_3 r) r.districts) q e in
      let z = t.1 in let no : ⊥ = cc in no,
  λ f. absurd f,
)
verdicts_fail Fourth r (key.District h) = row_fails district_total exact_district key.District same_district
    (passes_4 r) (λ h x. Condition_4_at r h) (tests_are_conditions.fourth r) r.districts h
verdicts_fail Fourth r q = (
  λ e. let t = judged_fails key.District (first_failing (passes_4 r) r.districts) q e in
      let z = t.1 in let no : ⊥ = cc in no,
  λ f. absurd f,
)
verdicts_fail Fifth r (key.Order k) = row_fails order_total exact_order key.Order same_order (passes_5 r)
    (Condition_5_at r) (tests_are_conditions.fifth r) r.orders k
verdicts_fail Fifth r q = (
  λ e. let t = judged_fails key.Order (first_failing (passes_5 r) r.orders) q e in
      let z = t.1 in let no : ⊥ = cc in no,
  λ f. absurd f,
)
verdicts_fail Sixth r (key.Order k) = row_fails order_total exact_order key.Order same_order (passes_6 r)
    (Condition_6_at r) (tests_are_conditions.sixth r) r.orders k
verdicts_fail Sixth r q = (
  λ e. let t = judged_fails key.Order (first_failing (passes_6 r) r.orders) q e in
      let z = t.1 in let no : ⊥ = cc in no,
  λ f. absurd f,
)
verdicts_fail Seventh r (key.OrderLine l) = row_fails order_line_total exact_order_line key.OrderLine same_line
    (passes_7 r) (Condition_7_at r) (tests_are_conditions.seventh r) r.order_lines l
verdicts_fail Seventh r q = (
  λ e. let t = judged_fails key.OrderLine (first_failing (passes_7 r) r.order_lines) q e in
      let z = t.1 in let no : ⊥ = cc in no,
  λ f. absurd f,
)
verdicts_fail Eighth r (key.Warehouse w) = row_fails warehouse_total exact_warehouse key.Warehouse same_warehouse
    (passes_8 r) (Condition_8_at r) (tests_are_conditions.eighth r) r.warehouses w
verdicts_fail Eighth r q = (
  λ e. let t = judged_fails key.Warehouse (first_failing (passes_8 r) r.warehouses) q e in
      let z = t.1 in let no : ⊥ = cc in no,
  λ f. absurd f,
)
verdicts_fail Ninth r (key.District h) = row_fails district_total exact_district key.District same_district (passes_9 r)
    (Condition_9_at r) (tests_are_conditions.ninth r) r.districts h
verdicts_fail Ninth r q = (
  λ e. let t = judged_fails key.District (first_failing (passes_9 r) r.districts) q e in
      let z = t.1 in let no : ⊥ = cc in no,
  λ f. absurd f,
)
verdicts_fail Tenth r (key.Customer c) = row_fails customer_total exact_customer key.Customer same_customer
    (passes_10 r) (Condition_10_at r) (tests_are_conditions.tenth r) r.customers c
verdicts_fail Tenth r q = (
  λ e. let t = judged_fails key.Customer (first_failing (passes_10 r) r.customers) q e in
      let z = t.1 in let no : ⊥ = cc in no,
  λ f. absurd f,
)
verdicts_fail Twelfth r (key.Customer c) = row_fails customer_total exact_customer key.Customer same_customer
    (passes_12 r) (Condition_12_at r) (tests_are_conditions.twelfth r) r.customers c
verdicts_fail Twelfth r q = (
  λ e. let t = judged_fails key.Customer (first_failing (passes_12 r) r.customers) q e in
      let z = t.1 in let no : ⊥ = cc in no,
  λ f. absurd f,
)

pub verdicts_are_exact : Verdicts_are_exact
verdicts_are_exact = record { holds = verdicts_hold; fails = verdicts_fail }
