-- Conditions 5 to 10 and 12 hold of the population by formula.
use Rattle.std.proofs.Common.{◌≡◌, ℕ, suc, ◌+◌, ◌-◌, ◌*◌, ◌/◌, ◌%◌, ◌≤◌, ◌<◌, refl, sym, ◌∙◌, ap, subst, Bool, true}
use Rattle.std.proofs.Common.{false, cond, Some, None, arith, zero-add, pos, ◌-ℤ◌}
use Rattle.std.specs.Prelude.{◌⊎◌, ◌↔◌, ◌&&◌, not, is_some, nat_le}
use Rattle.std.specs.Ordering.{eq_by_cmp}
use Rattle.std.specs.FinMap.{get}
use Rattle.std.proofs.lemmas.Bool.{and_parts, and_from, leb-true, leb-false}
use Rattle.std.proofs.lemmas.Nat.{div-mul-add, mod-mul-add, mod_below, div-add-mod'}
use Rattle.std.proofs.Math.Nat.{mul-le-mul_right}
use Rattle.oe_rows.specs.Key.{history_cmp}
use Rattle.oe_rows.specs.declared.scales.Scale.{Scale}
use Rattle.oe_rows.specs.declared.keys.WarehouseKey.{WarehouseKey}
use Rattle.oe_rows.specs.declared.keys.DistrictKey.{DistrictKey}
use Rattle.oe_rows.specs.declared.keys.CustomerKey.{CustomerKey}
use Rattle.oe_rows.specs.declared.keys.HistoryKey.{HistoryKey}
use Rattle.oe_rows.specs.declared.keys.OrderKey.{OrderKey}
use Rattle.oe_rows.specs.declared.keys.OrderLineKey.{OrderLineKey}
use Rattle.oe_rows.specs.declared.warehouses.Warehouse.{Warehouse}
use Rattle.oe_rows.specs.declared.districts.District.{District}
use Rattle.oe_rows.specs.declared.customers.Customer.{Customer}
use Rattle.oe_rows.specs.declared.histories.History.{History}
use Rattle.oe_rows.specs.declared.orders.Order.{Order}
use Rattle.oe_rows.specs.declared.orders.OrderLine.{OrderLine}
use Rattle.oe_rows.proofs.KeyFacts.{warehouse_total, exact_warehouse, district_total, exact_district, customer_total}
use Rattle.oe_rows.proofs.KeyFacts.{exact_customer, history_total, exact_history, order_total, exact_order}
use Rattle.oe_rows.proofs.KeyFacts.{order_line_total, exact_order_line}
use Rattle.oe_model.specs.Keys.{warehouse_of_district, district_of_customer, district_of_order, order_of_line}
use Rattle.oe_model.specs.Keys.{customer_in, new_order_in, line_in}
use Rattle.oe_model.specs.Rows.{Rows}
use Rattle.oe_model.specs.Conditions.{if_of_warehouse, if_of}
use Rattle.oe_model.specs.FurtherConditions.{More, if_of_order, if_of_customer, lines_of_order, amount_for, is_order_of}
use Rattle.oe_model.specs.FurtherConditions.{delivered_for, paid_in_warehouse, paid_in_district, paid_by, Condition_5}
use Rattle.oe_model.specs.FurtherConditions.{Condition_5_at, Condition_6, Condition_7, Condition_8, Condition_9}
use Rattle.oe_model.specs.FurtherConditions.{Condition_10_at, Condition_12_at}
use Rattle.oe_model.specs.Population.{IsScale, IsPopulated, where_there, counts_to, has_warehouse, has_district}
use Rattle.oe_model.specs.Population.{has_customer, has_order, has_line, warehouse_of, district_of, customer_of}
use Rattle.oe_model.specs.Population.{history_of, history_key, counted_customer, order_of, line_of, lines_of}
use Rattle.oe_model.specs.Population.{is_delivered}
use Rattle.oe_model.proofs.MapFacts.{is_same, is_self}
use Rattle.oe_model.proofs.SumFacts.{number_at, sum-none}
use Rattle.oe_model.proofs.CountFacts.{total-same, total-constant, sum-listed}
use Rattle.oe_model.proofs.PopulationFacts.{same_there, counts, counted, counts_or, counts_customer, warehouse_get}
use Rattle.oe_model.proofs.PopulationFacts.{district_get, customer_get, history_get, order_get, line_get, warehouse_is}
use Rattle.oe_model.proofs.PopulationFacts.{district_is, customer_is, history_is, new_order_is, order_is, line_is, held}
use Rattle.oe_model.proofs.PopulationFacts.{line_held}
use Rattle.oe_consistency.specs.Consistency.{Population_has_more}

-- a number below ten times c has a quotient below ten; and d times c and less than c more lies below, for d below ten
in_ten : (i c : ℕ) → 1 ≤ c → i < 10 * c → suc (i / c) ≤ 10
in_ten i c low l = by_test (nat_le (suc (i / c)) 10) refl
  where
    by_test : (b : Bool) → nat_le (suc (i / c)) 10 ≡ b → suc (i / c) ≤ 10
    by_test true t = leb-true (suc (i / c)) 10 t
    by_test false t =
        let high : 10 ≤ i / c = (let h = leb-false (suc (i / c)) 10 t in omega arith) in
        let most : 10 * c ≤ i / c * c = mul-le-mul_right c high in
        let whole : i / c * c + i % c ≡ i = div-add-mod' i c in
        absurd (let no : ⊥ = omega arith in no)

below : (d n c : ℕ) → d < 10 → n < c → d * c + n < 10 * c
below d n c l m =
    let most : d * c ≤ 9 * c = mul-le-mul_right c (let z : d ≤ 9 = omega arith in z) in
    omega arith

-- a date, or a carrier, where the order was delivered
dated_alike : (b : Bool) (m n : ℕ) → (cond b (Some m) None ≡ None) ↔ (cond b (Some n) None ≡ None)
dated_alike true m n = (λ e. let no : ⊥ = cc in absurd no, λ e. let no : ⊥ = cc in absurd no)
dated_alike false m n = (λ _. refl, λ _. refl)

waits_or : (b : Bool) (n : ℕ) → (cond b (Some n) None ≡ None) ↔ (not b ≡ true)
waits_or true n = (λ e. let no : ⊥ = cc in absurd no, λ e. let no : ⊥ = cc in absurd no)
waits_or false n = (λ _. refl, λ _. refl)

and_second : (a b : Bool) → a ≡ true → (a && b) ≡ b
and_second true b e = refl
and_second false b e = let no : ⊥ = cc in absurd no

module _ (s : Scale) (r : Rows) (sc : IsScale s) (p : IsPopulated s r) where
  -- the row of a key is the formula's
  pub order_row : (k : OrderKey) (x : Order) → get r.orders k ≡ Some x
      → (has_order s k ≡ true) × (order_of s k.order ≡ x)
  order_row k x e = (held s r sc p _ x (order_is s r sc p k) e, same_there _ _ x (sym (order_get s r sc p k) ∙ e))

  pub line_row : (l : OrderLineKey) (y : OrderLine) → get r.order_lines l ≡ Some y
      → (has_line s l ≡ true) × (line_of s l ≡ y)
  line_row l y e = (held s r sc p _ y (line_is s r sc p l) e, same_there _ _ y (sym (line_get s r sc p l) ∙ e))

  condition_5 : Condition_5 r
  condition_5 k x e =
      let row = order_row k x e in
      let waits : is_some (get r.new_orders (new_order_in (district_of_order k) k.order)) ≡ not
      (is_delivered s k.order) =
      new_order_is s r sc p (new_order_in (district_of_order k) k.order)
      ∙ and_second (has_order s k) (not (is_delivered s k.order)) row.0 in
      let same = waits_or (is_delivered s k.order) (1 + k.order % 10) in
      subst (λ (z : Order). Condition_5_at r k z) row.1 (λ v. waits ∙ same.0 v, λ v. same.1 (sym waits ∙ v))

  condition_6 : Condition_6 r
  condition_6 k x e =
      let row = order_row k x e in
      sym (ap (λ (z : Order). z.line_count) row.1) ∙ sym (lines row.0)
    where
      at : ℕ → OrderLineKey
      at i = line_in k (suc i)

      one : OrderLineKey → OrderLine → ℕ
      one l y = if_of_order k (order_of_line l) 1

      apart : (i j : ℕ) → i < j → j < lines_of k.order → at i ≡ at j → ⊥
      apart i j l m e = let d : suc i ≡ suc j = ap (λ (l : OrderLineKey). l.number) e in omega arith

      listed : (l : OrderLineKey) (y : OrderLine) → get r.order_lines l ≡ Some y
          → (one l y ≡ 0) ⊎ ((i : ℕ) × (i < lines_of k.order) × (at i ≡ l))
      listed l y e = counts_or s r sc p _ 1 _ (λ t.
          let g = is_same order_total exact_order (order_of_line l) k t in
          let n = line_held s r sc p l (line_row l y e).0 in
          let o : l.order ≡ k.order = ap (λ (i : OrderKey). i.order) g in
          let high : l.number ≤ lines_of k.order = subst (λ (m : ℕ). l.number ≤ lines_of m) o n.2 in
          let number : suc (l.number - 1) ≡ l.number = (let low = n.1 in omega arith) in
          (l.number - 1, (let low = n.1 in omega arith), (λ i. line_in (sym g i) (number i))))

      lines : has_order s k ≡ true → lines_of_order r k ≡ lines_of k.order
      lines there =
          sum-listed order_line_total exact_order_line one (lines_of k.order) at apart r.order_lines listed
          ∙ total-same (lines_of k.order) (λ i. number_at one (at i) (get r.order_lines (at i))) (λ i. 1)
          (λ i l. each i l)
          ∙ total-constant (lines_of k.order) 1 ∙ omega arith
        where
          each : (i : ℕ) → i < lines_of k.order → number_at one (at i) (get r.order_lines (at i)) ≡ 1
          each i l =
              ap (number_at one (at i))
              (line_get s r sc p (at i) ∙ ap (λ b. where_there b (line_of s (at i)))
              (and_from (has_order s k) _ there (counted (lines_of k.order) (suc i) (omega arith) (omega arith))))
              ∙ ap (λ b. cond b 1 0) (is_self order_total exact_order k)

  condition_7 : Condition_7 r
  condition_7 l y e x f =
      let line = line_row l y e in
      let order = order_row (order_of_line l) x f in
      subst (λ (z : Order). (y.delivery ≡ None) ↔ (z.carrier ≡ None)) order.1
      (subst (λ (z : OrderLine). (z.delivery ≡ None) ↔ ((order_of s l.order).carrier ≡ None)) line.1
      (dated_alike (is_delivered s l.order) _ _))

  -- each HISTORY row is of the customer that it counts, in the customer's district
  pub history_row : (k : HistoryKey) (y : History) → get r.histories k ≡ Some y
      → (has_customer s (counted_customer s k.number) ≡ true) × (history_of (counted_customer s k.number) ≡ y)
      × (history_key s (counted_customer s k.number) ≡ k)
  history_row k y e =
      let c : CustomerKey = counted_customer s k.number in
      let there = and_parts (has_customer s c) (eq_by_cmp history_cmp k (history_key s c))
      (held s r sc p _ y (history_is s r sc p k) e) in (
        there.0,
        same_there _ _ y (sym (history_get s r sc p k) ∙ e),
        sym
            (is_same history_total exact_history k (history_key s c) there.1),
      )

  pub history_at : (c : CustomerKey) → has_customer s c ≡ true → get r.histories (history_key s c) ≡ Some (history_of c)
  history_at c t =
      history_get s r sc p (history_key s c)
      ∙ subst (λ (d : CustomerKey). where_there
      (has_customer s d && eq_by_cmp history_cmp (history_key s c) (history_key s d)) (history_of d) ≡ Some
      (history_of c)) (sym (counts_customer s c t))
      (ap (λ b. where_there b (history_of c))
      (and_from (has_customer s c) _ t (is_self history_total exact_history (history_key s c))))

  customer_held : (c : CustomerKey) → has_customer s c ≡ true → (has_district s (district_of_customer c) ≡ true)
      × (1 ≤ c.customer) × (c.customer ≤ s.customers)
  customer_held c t =
      let a = and_parts (has_district s (district_of_customer c)) (counts_to s.customers c.customer) t in
      let b = counts s.customers c.customer a.1 in (a.0, b.0, b.1)

  condition_10_12 : (c : CustomerKey) (x : Customer) → get r.customers c ≡ Some x
      → Condition_10_at r c x × Condition_12_at r c x
  condition_10_12 c x e =
      let there = held s r sc p _ x (customer_is s r sc p c) e in
      let row : customer_of c.customer ≡ x = same_there _ _ x (sym (customer_get s r sc p c) ∙ e) in
      let d = nothing_delivered in
      let m = paid there in
      subst (λ (z : Customer). Condition_10_at r c z × Condition_12_at r c z) row
      ((λ i. pos (sym d i) -ℤ pos (sym m i)), (λ i. pos (sym d i)))
    where
      nothing_delivered : delivered_for r c ≡ 0
      nothing_delivered = sum-none order_line_total exact_order_line
          (λ l y. amount_for c (order_of_line l) (get r.orders (order_of_line l)) y) r.order_lines (λ l y f.
          subst (λ (z : OrderLine). amount_for c (order_of_line l) (get r.orders (order_of_line l)) z ≡ 0)
          (line_row l y f).1
          (nothing (is_order_of c (order_of_line l) (get r.orders (order_of_line l))) (is_delivered s l.order) _ _))
        where
          nothing : (a b : Bool) (m n : ℕ) → cond (a && is_some (cond b (Some m) None)) (cond b 0 n) 0 ≡ 0
          nothing true true m n = refl
          nothing true false m n = refl
          nothing false b m n = refl

      own : HistoryKey → History → ℕ
      own k y = if_of_customer c y.customer y.amount

      paid : has_customer s c ≡ true → paid_by r c ≡ 1_000
      paid there =
          sum-listed history_total exact_history own 1 (λ i. history_key s c) (λ i j l m e. omega arith) r.histories
          listed
          ∙ zero-add _
          ∙ ap (number_at own (history_key s c)) (history_at c there) ∙ ap (λ b. cond b 1_000 0)
          (is_self customer_total exact_customer c)
        where
          listed : (k : HistoryKey) (y : History) → get r.histories k ≡ Some y
              → (own k y ≡ 0) ⊎ ((i : ℕ) × (i < 1) × (history_key s c ≡ k))
          listed k y f = counts_or s r sc p _ y.amount _ (λ t.
              let row = history_row k y f in
              let mine : counted_customer s k.number ≡ c = ap (λ (z : History). z.customer) row.1
              ∙ is_same customer_total exact_customer y.customer c t in
              (0, omega arith, ap (history_key s) (sym mine) ∙ row.2))

  condition_9 : Condition_9 r
  condition_9 h x e =
      let there = held s r sc p _ x (district_is s r sc p h) e in
      let row : district_of s h.district ≡ x = same_there _ _ x (sym (district_get s r sc p h) ∙ e) in
      sym (ap (λ (z : District). z.ytd) row) ∙ sym (paid there)
    where
      at : ℕ → HistoryKey
      at i = history_key s (customer_in h (suc i))

      own : HistoryKey → History → ℕ
      own k y = if_of h y.district y.amount

      apart : (i j : ℕ) → i < j → j < s.customers → at i ≡ at j → ⊥
      apart i j l m e =
          let base = ((h.warehouse - 1) * 10 + (h.district - 1)) * s.customers in
          let d : base + suc i ≡ base + suc j = ap (λ (k : HistoryKey). k.number) e in omega arith

      listed : (k : HistoryKey) (y : History) → get r.histories k ≡ Some y
          → (own k y ≡ 0) ⊎ ((i : ℕ) × (i < s.customers) × (at i ≡ k))
      listed k y f = counts_or s r sc p _ y.amount _ (λ t.
          let row = history_row k y f in
          let c : CustomerKey = counted_customer s k.number in
          let home : district_of_customer c ≡ h = ap (λ (z : History). z.district) row.1
          ∙ is_same district_total exact_district y.district h t in
          let n = customer_held c row.0 in
          let number : suc (c.customer - 1) ≡ c.customer = (let low = n.1 in omega arith) in (
            c.customer - 1,
            (let low = n.1 in let high = n.2 in omega arith),
            (λ i. history_key s (customer_in (sym home i) (number i))) ∙ row.2,
          ))

      paid : has_district s h ≡ true → paid_in_district r h ≡ s.customers * 1_000
      paid there =
          sum-listed history_total exact_history own s.customers at apart r.histories listed
          ∙ total-same s.customers (λ i. number_at own (at i) (get r.histories (at i))) (λ i. 1_000) (λ i l. each i l)
          ∙ total-constant s.customers 1_000
        where
          each : (i : ℕ) → i < s.customers → number_at own (at i) (get r.histories (at i)) ≡ 1_000
          each i l =
              ap (number_at own (at i))
              (history_at (customer_in h (suc i))
              (and_from (has_district s h) _ there (counted s.customers (suc i) (omega arith) (omega arith))))
              ∙ ap (λ b. cond b 1_000 0) (is_self district_total exact_district h)

  -- the payments of a warehouse, those of its ten districts together
  module _ (w : WarehouseKey) (there : has_warehouse s w ≡ true) where
    abbrev payer : ℕ → CustomerKey
    payer i = record { warehouse = w.warehouse; district = suc (i / s.customers); customer = suc (i % s.customers) }

    abbrev at : ℕ → HistoryKey
    at i = history_key s (payer i)

    abbrev own : HistoryKey → History → ℕ
    own k y = if_of_warehouse w y.district y.amount

    -- the customer of a number below ten districts'
    is_payer : (i : ℕ) → i < 10 * s.customers → has_customer s (payer i) ≡ true
    is_payer i l =
        let small : i % s.customers < s.customers = mod_below i s.customers sc.customers.0 in
        and_from (has_district s (district_of_customer (payer i))) _
        (and_from (has_warehouse s w) _ there
        (counted 10 (suc (i / s.customers)) (omega arith) (in_ten i s.customers sc.customers.0 l)))
        (counted s.customers (suc (i % s.customers)) (omega arith) (omega arith))

    apart : (i j : ℕ) → i < j → j < 10 * s.customers → at i ≡ at j → ⊥
    apart i j l m e =
        let same : payer i ≡ payer j =
        sym (counts_customer s (payer i) (is_payer i (omega arith))) ∙ ap
        (λ (k : HistoryKey). counted_customer s k.number) e ∙ counts_customer s (payer j) (is_payer j m) in
        let d : suc (i / s.customers) ≡ suc (j / s.customers) = ap (λ (c : CustomerKey). c.district) same in
        let c : suc (i % s.customers) ≡ suc (j % s.customers) = ap (λ (c : CustomerKey). c.customer) same in
        let d' : i / s.customers ≡ j / s.customers = omega arith in
        let c' : i % s.customers ≡ j % s.customers = omega arith in
        let z : i ≡ j = sym (div-add-mod' i s.customers) ∙ (λ t. d' t * s.customers + c' t)
        ∙ div-add-mod' j s.customers in
        omega arith

    listed : (k : HistoryKey) (y : History) → get r.histories k ≡ Some y
        → (own k y ≡ 0) ⊎ ((i : ℕ) × (i < 10 * s.customers) × (at i ≡ k))
    listed k y f = counts_or s r sc p _ y.amount _ (λ t.
        let row = history_row k y f in
        let c : CustomerKey = counted_customer s k.number in
        let home : district_of_customer c ≡ y.district = ap (λ (z : History). z.district) row.1 in
        let n = customer_held c row.0 in
        let m = counts 10 c.district
        (and_parts (has_warehouse s (warehouse_of_district (district_of_customer c))) (counts_to 10 c.district)
        n.0).1 in
        let a : c.warehouse ≡ w.warehouse = ap (λ (h : DistrictKey). h.warehouse) home
        ∙ ap (λ (v : WarehouseKey). v.warehouse)
        (is_same warehouse_total exact_warehouse (warehouse_of_district y.district) w t) in
        let low : c.customer - 1 < s.customers = (let x = n.1 in let z = n.2 in omega arith) in
        let d : ((c.district - 1) * s.customers + (c.customer - 1)) / s.customers ≡ c.district - 1 =
        div-mul-add (c.district - 1) s.customers (c.customer - 1) low in
        let b : ((c.district - 1) * s.customers + (c.customer - 1)) % s.customers ≡ c.customer - 1 =
        mod-mul-add (c.district - 1) s.customers (c.customer - 1) low in
        let d' : suc (c.district - 1) ≡ c.district = (let x = m.0 in omega arith) in
        let b' : suc (c.customer - 1) ≡ c.customer = (let x = n.1 in omega arith) in
        let is : payer ((c.district - 1) * s.customers + (c.customer - 1)) ≡ c =
        λ i. record { warehouse = sym a i; district = (ap suc d ∙ d') i; customer = (ap suc b ∙ b') i } in (
          (c.district - 1) * s.customers + (c.customer - 1),
          below (c.district - 1) (c.customer - 1) s.customers
              (let x = m.0 in let z = m.1 in omega arith) low,
          ap (history_key s) is ∙ row.2,
        ))

    each : (i : ℕ) → i < 10 * s.customers → number_at own (at i) (get r.histories (at i)) ≡ 1_000
    each i l = ap (number_at own (at i)) (history_at (payer i) (is_payer i l))
        ∙ ap (λ b. cond b 1_000 0) (is_self warehouse_total exact_warehouse w)

    paid : paid_in_warehouse r w ≡ 10 * s.customers * 1_000
    paid =
        sum-listed history_total exact_history own (10 * s.customers) at apart r.histories listed
        ∙ total-same (10 * s.customers) (λ i. number_at own (at i) (get r.histories (at i))) (λ i. 1_000) each
        ∙ total-constant (10 * s.customers) 1_000

  condition_8 : Condition_8 r
  condition_8 w x e =
      let there = held s r sc p _ x (warehouse_is s r sc p w) e in
      let row : warehouse_of s w.warehouse ≡ x = same_there _ _ x (sym (warehouse_get s r sc p w) ∙ e) in
      let ytd : s.customers * 10_000 ≡ x.ytd = ap (λ (z : Warehouse). z.ytd) row in
      let sum = paid w there in
      omega arith

  pub has_more : More r
  has_more = record {
    condition_5 = condition_5;
    condition_6 = condition_6;
    condition_7 = condition_7;
    condition_8 = condition_8;
    condition_9 = condition_9;
    condition_10 = λ c x e. (condition_10_12 c x e).0;
    condition_12 = λ c x e. (condition_10_12 c x e).1;
  }

pub population_has_more : Population_has_more
population_has_more s r sc p = has_more s r sc p
