-- The test of a population is exact.
use Rattle.std.proofs.Common.{◌≡◌, ℕ, zero, suc, ◌+◌, ◌≤◌, ◌<◌, ◌↔◌, refl, sym, ◌∙◌, ap, Bool, true, List, [], ◌∷◌}
use Rattle.std.proofs.Common.{Some, inl, inr, arith}
use Rattle.std.specs.Prelude.{◌⊎◌, ◌&&◌, is_some, IsSome}
use Rattle.std.specs.List.{list_all, range_with_len}
use Rattle.std.specs.declared.cmp.Ordering.{Ordering}
use Rattle.std.specs.Cmp.{IsTotalOrder}
use Rattle.std.specs.FinMap.{FinMap, IsAntisymmetric, get, entries}
use Rattle.std.proofs.lemmas.Bool.{eq-eqb, eqb-true, and_parts, and_from, cases_order}
use Rattle.oe_rows.specs.declared.keys.DistrictKey.{DistrictKey}
use Rattle.oe_rows.proofs.KeyFacts.{warehouse_total, exact_warehouse, district_total, exact_district, customer_total}
use Rattle.oe_rows.proofs.KeyFacts.{exact_customer, history_total, exact_history, new_order_total, exact_new_order}
use Rattle.oe_rows.proofs.KeyFacts.{order_total, exact_order, order_line_total, exact_order_line, item_total}
use Rattle.oe_rows.proofs.KeyFacts.{exact_item, stock_total, exact_stock}
use Rattle.oe_model.specs.Keys.{warehouse_of_district, warehouse_of_stock, item_of_stock}
use Rattle.oe_model.specs.Rows.{Rows}
use Rattle.oe_model.specs.Meets.{Meets}
use Rattle.oe_model.specs.Conditions.{Condition_1_at, Condition_2_at, Condition_3_at, Condition_4_at, Condition_1}
use Rattle.oe_model.specs.Conditions.{Condition_2, Condition_3, Condition_4, IsStocked, IsPopulation}
use Rattle.oe_model.specs.Audits.{passes_1, passes_2, passes_3, passes_4}
use Rattle.oe_model.specs.PopulationTest.{each_row, meets_schema, meets_conditions, has_stocks, is_population}
use Rattle.oe_model.specs.PopulationTest.{Population_is_tested}
use Rattle.oe_model.proofs.EntryFacts.{EachOf, each_of, entries_at, row_among}
use Rattle.oe_model.proofs.ListFacts.{each_among}
use Rattle.oe_model.proofs.PresenceFacts.{some_present, present_some}
use Rattle.oe_model.proofs.VerdictFacts.{with_row, tests_are_conditions}

each_passes : {A : Type 0} (p : A → Bool) (xs : List A) → list_all p xs ≡ true → EachOf (λ x. p x ≡ true) xs
each_passes p [] e = tt
each_passes p (x ∷ xs) e = let t = and_parts (p x) (list_all p xs) e in (t.0, each_passes p xs t.1)

all_pass : {A : Type 0} (p : A → Bool) (xs : List A) → EachOf (λ x. p x ≡ true) xs → list_all p xs ≡ true
all_pass p [] h = refl
all_pass p (x ∷ xs) h = and_from (p x) _ h.0 (all_pass p xs h.1)

module _ {K X : Type 0} {R : K → K → Ordering} (o : IsTotalOrder R) (exact : IsAntisymmetric R) (test : K → X → Bool)
    (m : FinMap R X) where
  -- each row passes the test
  pub rows_pass : (each_row test m ≡ true) ↔ ((k : K) (x : X) → get m k ≡ Some x → test k x ≡ true)
  rows_pass = (
    λ e k x row. each_among (λ e. test e.0 e.1 ≡ true) (entries m) (k, x)
        (each_passes (λ e. test e.0 e.1) (entries m) e) (row_among o exact m k x row),
    λ h. all_pass (λ e. test e.0 e.1) (entries m)
        (each_of (λ e. get m e.0 ≡ Some e.1) (λ e. test e.0 e.1 ≡ true) (λ e row. h e.0 e.1 row) (entries m)
        (entries_at o m)),
  )

-- each number from a on, of n
range_passes : (p : ℕ → Bool) (n a : ℕ) → (list_all p (range_with_len a n) ≡ true)
    ↔ ((d : ℕ) → a ≤ d → d < a + n → p d ≡ true)
range_passes p zero a = (λ e d low high. absurd (let no : ⊥ = omega arith in no), λ h. refl)
range_passes p (suc n) a = (
  λ e d low high. let t = and_parts (p a) _ e in
      at_first d low high t.0 ((range_passes p n (a + 1)).0 t.1 d) (cases_order a d),
  λ h. and_from (p a) _ (h a (omega arith) (omega arith))
      ((range_passes p n (a + 1)).1 (λ d low high. h d (omega arith) (omega arith))),
)
  where
    at_first : (d : ℕ) → a ≤ d → d < a + suc n → p a ≡ true → (a + 1 ≤ d → d < a + 1 + n → p d ≡ true)
        → (a ≡ d) ⊎ ((a < d) ⊎ (d < a)) → p d ≡ true
    at_first d low high t rest (inl e) = ap p (sym e) ∙ t
    at_first d low high t rest (inr (inl l)) = rest (omega arith) (omega arith)
    at_first d low high t rest (inr (inr l)) = absurd (let no : ⊥ = omega arith in no)

-- four tests, and eight
parts_4 : (a b c d : Bool) → (a && b && c && d) ≡ true → (a ≡ true) × (b ≡ true) × (c ≡ true) × (d ≡ true)
parts_4 a b c d t =
    let p = and_parts (a && b && c) d t in
    let q = and_parts (a && b) c p.0 in
    let r = and_parts a b q.0 in
    (r.0, r.1, q.1, p.1)

from_4 : (a b c d : Bool) → (a ≡ true) × (b ≡ true) × (c ≡ true) × (d ≡ true) → (a && b && c && d) ≡ true
from_4 a b c d t = λ i. t.0 i && t.1 i && t.2 i && t.3 i

parts_8 : (a b c d e f g h : Bool) → (a && b && c && d && e && f && g && h) ≡ true
    → (a ≡ true) × (b ≡ true) × (c ≡ true) × (d ≡ true) × (e ≡ true) × (f ≡ true) × (g ≡ true) × (h ≡ true)
parts_8 a b c d e f g h t =
    let p = and_parts (a && b && c && d && e && f && g) h t in
    let q = and_parts (a && b && c && d && e && f) g p.0 in
    let r = and_parts (a && b && c && d && e) f q.0 in
    let s = parts_4 (a && b) c d e r.0 in
    let u = and_parts a b s.0 in
    (u.0, u.1, s.1, s.2, s.3, r.1, q.1, p.1)

from_8 : (a b c d e f g h : Bool) → (a ≡ true) × (b ≡ true) × (c ≡ true) × (d ≡ true) × (e ≡ true) × (f ≡ true)
    × (g ≡ true) × (h ≡ true) → (a && b && c && d && e && f && g && h) ≡ true
from_8 a b c d e f g h t = λ i. t.0 i && t.1 i && t.2 i && t.3 i && t.4 i && t.5 i && t.6 i && t.7 i

module _ (r : Rows) where
  ten : (e : each_row (λ w x. list_all
      (λ d. is_some (get r.districts (record { warehouse = w.warehouse; district = d }))) (range_with_len 1 10))
      r.warehouses ≡ true)
      → (k : DistrictKey) → IsSome (get r.warehouses (warehouse_of_district k)) → 1 ≤ k.district → k.district ≤ 10
      → IsSome (get r.districts k)
  ten e k i low high =
      let row = present_some (get r.warehouses (warehouse_of_district k)) i in
      let w = warehouse_of_district k in
      (range_passes (λ d. is_some (get r.districts (record { warehouse = k.warehouse; district = d }))) 10 1).0
      ((rows_pass warehouse_total exact_warehouse _ r.warehouses).0 e w row.0 row.1) k.district low (omega arith)

  schema : (meets_schema r ≡ true) ↔ Meets r
  schema = (
    λ e.
        let t = parts_8 _ _ _ _ _ _ _ _ e in
        record {
          districts = (rows_pass district_total exact_district _ r.districts).0 t.0;
          customers = (rows_pass customer_total exact_customer _ r.customers).0 t.1;
          histories = λ k x row. and_parts _ _ ((rows_pass history_total exact_history _ r.histories).0 t.2 k x row);
          new_orders = (rows_pass new_order_total exact_new_order _ r.new_orders).0 t.3;
          orders = (rows_pass order_total exact_order _ r.orders).0 t.4;
          order_lines = λ k x row. and_parts _ _
              ((rows_pass order_line_total exact_order_line _ r.order_lines).0 t.5 k x row);
          stocks = λ k x row. and_parts _ _ ((rows_pass stock_total exact_stock _ r.stocks).0 t.6 k x row);
          ten_districts = ten t.7;
        },
    λ m.
        from_8 _ _ _ _ _ _ _ _ (
          (rows_pass district_total exact_district _ r.districts).1 m.districts,
          (rows_pass customer_total exact_customer _ r.customers).1 m.customers,
          (rows_pass history_total exact_history _ r.histories).1 (λ k x row. let t = m.histories k x row in
              and_from _ _ t.0 t.1),
          (rows_pass new_order_total exact_new_order _ r.new_orders).1 m.new_orders,
          (rows_pass order_total exact_order _ r.orders).1 m.orders,
          (rows_pass order_line_total exact_order_line _ r.order_lines).1
              (λ k x row. let t = m.order_lines k x row in and_from _ _ t.0 t.1),
          (rows_pass stock_total exact_stock _ r.stocks).1 (λ k x row. let t = m.stocks k x row in
              and_from _ _ t.0 t.1),
          (rows_pass warehouse_total exact_warehouse _ r.warehouses).1 (λ w x row.
              (range_passes (λ d. is_some (get r.districts (record { warehouse = w.warehouse; district = d }))) 10 1).1
              (λ d low high. m.ten_districts (record { warehouse = w.warehouse; district = d })
              (some_present _ x row) low (omega arith))),
        ),
  )

  -- a test of a row that is a condition there
  rows_meet : {K X : Type 0} {R : K → K → Ordering} → IsTotalOrder R → IsAntisymmetric R
      → (test : K → X → Bool) (P : K → X → Type 0) → ((k : K) (x : X) → (test k x ≡ true) ↔ P k x)
      → (m : FinMap R X) → (each_row test m ≡ true) ↔ ((k : K) (x : X) → get m k ≡ Some x → P k x)
  rows_meet o exact test P is m =
      let t = rows_pass o exact test m in
      (λ e k x row. (is k x).0 (t.0 e k x row), λ h. t.1 (λ k x row. (is k x).1 (h k x row)))

  stocks : (has_stocks r ≡ true) ↔ IsStocked r
  stocks = (
    λ e k w i.
        let warehouse = present_some (get r.warehouses (warehouse_of_stock k)) w in
        let item = present_some (get r.items (item_of_stock k)) i in
        (rows_pass item_total exact_item _ r.items).0
        ((rows_pass warehouse_total exact_warehouse _ r.warehouses).0 e (warehouse_of_stock k) warehouse.0
        warehouse.1) (item_of_stock k) item.0 item.1,
    λ h.
        (rows_pass warehouse_total exact_warehouse _ r.warehouses).1 (λ w x row.
        (rows_pass item_total exact_item _ r.items).1
        (λ i y item. h (record { warehouse = w.warehouse; item = i.item }) (some_present _ x row)
        (some_present _ y item))),
  )

  first : (each_row (passes_1 r) r.warehouses ≡ true) ↔ Condition_1 r
  first = rows_meet warehouse_total exact_warehouse (passes_1 r) (Condition_1_at r) (tests_are_conditions.first r)
      r.warehouses

  second : (each_row (passes_2 r) r.districts ≡ true) ↔ Condition_2 r
  second = rows_meet district_total exact_district (passes_2 r) (Condition_2_at r) (tests_are_conditions.second r)
      r.districts

  third : (each_row (passes_3 r) r.districts ≡ true) ↔ Condition_3 r
  third = with_row (Condition_3_at r) r.districts
      (rows_meet district_total exact_district (passes_3 r) (λ h x. Condition_3_at r h) (tests_are_conditions.third r)
      r.districts)

  fourth : (each_row (passes_4 r) r.districts ≡ true) ↔ Condition_4 r
  fourth = with_row (Condition_4_at r) r.districts
      (rows_meet district_total exact_district (passes_4 r) (λ h x. Condition_4_at r h) (tests_are_conditions.fourth r)
      r.districts)

  tested : (is_population r ≡ true) ↔ IsPopulation r
  tested = (
    λ e.
        let t = parts_4 (meets_schema r) (meets_conditions r) (has_stocks r) _ e in
        let c = parts_4 _ _ _ _ t.1 in
        record {
          meets = schema.0 t.0;
          condition_1 = first.0 c.0;
          condition_2 = second.0 c.1;
          condition_3 = third.0 c.2;
          condition_4 = fourth.0 c.3;
          stocked = stocks.0 t.2;
          histories = λ k x row. eqb-true k.terminal 0
              ((rows_pass history_total exact_history _ r.histories).0 t.3 k x row);
        },
    λ p.
        from_4 (meets_schema r) (meets_conditions r) (has_stocks r) _ (
          schema.1 p.meets,
          from_4 _ _ _ _
              (first.1 p.condition_1, second.1 p.condition_2, third.1 p.condition_3, fourth.1 p.condition_4),
          stocks.1 p.stocked,
          (rows_pass history_total exact_history _ r.histories).1
              (λ k x row. eq-eqb k.terminal 0 (p.histories k x row)),
        ),
  )

pub population_is_tested : Population_is_tested
population_is_tested = record { exact = tested }
