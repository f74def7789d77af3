-- The population by formula is one: the schema and conditions 1 to 4 hold of it.
use Rattle.std.proofs.Common.{◌≡◌, ℕ, zero, suc, ◌+◌, ◌-◌, ◌*◌, ◌/◌, ◌%◌, ◌≤◌, ◌<◌, refl, sym, ◌∙◌, ap, subst, Bool}
use Rattle.std.proofs.Common.{true, false, cond, Option, Some, inl, inr, nat_lt, arith}
use Rattle.std.specs.Prelude.{◌⊎◌, ◌&&◌, not, nat_le, is_some, IsSome, option_map, [], get_or}
use Rattle.std.specs.Ordering.{eq_by_cmp}
use Rattle.std.specs.FinMap.{get}
use Rattle.std.proofs.lemmas.Bool.{leb-true, leb-false, le-leb, lt-leb, ltb-true, ltb-false, and_parts, and_from}
use Rattle.std.proofs.lemmas.Bool.{and_right, not-true}
use Rattle.std.proofs.lemmas.List.FromFn.{get_or-map-range_with_len}
use Rattle.std.proofs.lemmas.Nat.{div-mul-add, mod-mul-add, mod_below}
use Rattle.oe_rows.specs.Key.{district_cmp, history_cmp}
use Rattle.oe_rows.specs.declared.scales.Scale.{Scale}
use Rattle.oe_rows.specs.declared.keys.WarehouseKey.{WarehouseKey}
use Rattle.oe_rows.specs.declared.keys.DistrictKey.{DistrictKey}
use Rattle.oe_rows.specs.declared.keys.CustomerKey.{CustomerKey}
use Rattle.oe_rows.specs.declared.keys.HistoryKey.{HistoryKey}
use Rattle.oe_rows.specs.declared.keys.NewOrderKey.{NewOrderKey}
use Rattle.oe_rows.specs.declared.keys.OrderKey.{OrderKey}
use Rattle.oe_rows.specs.declared.keys.OrderLineKey.{OrderLineKey}
use Rattle.oe_rows.specs.declared.keys.ItemKey.{ItemKey}
use Rattle.oe_rows.specs.declared.keys.StockKey.{StockKey}
use Rattle.oe_rows.specs.declared.keys.Key.TheVariants as key
use Rattle.oe_rows.specs.declared.warehouses.Warehouse.{Warehouse}
use Rattle.oe_rows.specs.declared.districts.District.{District}
use Rattle.oe_rows.specs.declared.histories.History.{History}
use Rattle.oe_rows.specs.declared.orders.NewOrder.{NewOrder}
use Rattle.oe_rows.specs.declared.orders.Order.{Order}
use Rattle.oe_rows.specs.declared.orders.OrderLine.{OrderLine}
use Rattle.oe_rows.specs.declared.items.Stock.{Stock}
use Rattle.oe_rows.specs.declared.rows.Row.TheVariants as row
use Rattle.oe_rows.proofs.KeyFacts.{warehouse_total, exact_warehouse, district_total, exact_district, history_total}
use Rattle.oe_rows.proofs.KeyFacts.{exact_history, new_order_total, exact_new_order, order_total, exact_order}
use Rattle.oe_rows.proofs.KeyFacts.{order_line_total, exact_order_line}
use Rattle.oe_model.specs.Keys.{warehouse_of_district, district_of_customer, district_of_new_order, order_of_new_order}
use Rattle.oe_model.specs.Keys.{district_of_order, order_of_line, customer_of_order, supply_of_line, warehouse_of_stock}
use Rattle.oe_model.specs.Keys.{item_of_stock, order_in, new_order_in, line_in}
use Rattle.oe_model.specs.Rows.{Rows}
use Rattle.oe_model.specs.Meets.{Meets}
use Rattle.oe_model.specs.Conditions.{if_of_warehouse, if_of, HasOrder, HasNewOrder, ytd_of, new_orders_of, lines_asked}
use Rattle.oe_model.specs.Conditions.{lines_there, Condition_1, Condition_2_at, Condition_3_at, IsStocked, IsPopulation}
use Rattle.oe_model.specs.Population.{IsScale, IsPopulated, formula, where_there, counts_to, has_warehouse}
use Rattle.oe_model.specs.Population.{has_district, has_customer, has_history, has_order, has_new_order, has_line}
use Rattle.oe_model.specs.Population.{has_item, has_stock, warehouse_of, district_of, customer_of, history_of}
use Rattle.oe_model.specs.Population.{history_key, counted_customer, order_of, line_of, lines_of, is_delivered}
use Rattle.oe_model.specs.Population.{last_delivered, item_of_line, stock_of, dist_text}
use Rattle.oe_model.specs.PopulationLaws.{Population_is_one}
use Rattle.oe_model.proofs.MapFacts.{is_same, is_self}
use Rattle.oe_model.proofs.RowFacts.{un_warehouse, un_district, un_customer, un_history, un_new_order, un_order}
use Rattle.oe_model.proofs.RowFacts.{un_order_line, un_item, un_stock}
use Rattle.oe_model.proofs.PresenceFacts.{present_some}
use Rattle.oe_model.proofs.SumFacts.{number_at}
use Rattle.oe_model.proofs.CountFacts.{total, total-same, total-constant, total-add, total-below, sum-listed}

module _ {X : Type 0} where
  pub some_there : (b : Bool) (x : X) → is_some (where_there b x) ≡ b
  some_there true x = refl
  some_there false x = refl

  pub same_there : (b : Bool) (x y : X) → where_there b x ≡ Some y → x ≡ y
  same_there true x y e = cc
  same_there false x y e = cc

pub counts : (most n : ℕ) → counts_to most n ≡ true → (1 ≤ n) × (n ≤ most)
counts most n e = let p = and_parts (nat_le 1 n) (nat_le n most) e in (leb-true 1 n p.0, leb-true n most p.1)

pub counted : (most n : ℕ) → 1 ≤ n → n ≤ most → counts_to most n ≡ true
counted most n low high = and_from (nat_le 1 n) (nat_le n most) (le-leb 1 n low) (le-leb n most high)

module _ (s : Scale) (r : Rows) (sc : IsScale s) (p : IsPopulated s r) where
  -- the row of each key
  pub warehouse_get : (k : WarehouseKey) → get r.warehouses k ≡ where_there (has_warehouse s k)
      (warehouse_of s k.warehouse)
  warehouse_get k = un_warehouse _ _ (p (key.Warehouse k))

  pub district_get : (k : DistrictKey) → get r.districts k ≡ where_there (has_district s k) (district_of s k.district)
  district_get k = un_district _ _ (p (key.District k))

  pub customer_get : (k : CustomerKey) → get r.customers k ≡ where_there (has_customer s k) (customer_of k.customer)
  customer_get k = un_customer _ _ (p (key.Customer k))

  pub history_get : (k : HistoryKey) → get r.histories k ≡ where_there (has_history s k)
      (history_of (counted_customer s k.number))
  history_get k = un_history _ _ (p (key.History k))

  pub new_order_get : (k : NewOrderKey) → get r.new_orders k ≡ where_there (has_new_order s k) (record {})
  new_order_get k = un_new_order _ _ (p (key.NewOrder k))

  pub order_get : (k : OrderKey) → get r.orders k ≡ where_there (has_order s k) (order_of s k.order)
  order_get k = un_order _ _ (p (key.Order k))

  pub line_get : (k : OrderLineKey) → get r.order_lines k ≡ where_there (has_line s k) (line_of s k)
  line_get k = un_order_line _ _ (p (key.OrderLine k))

  pub stock_get : (k : StockKey) → get r.stocks k ≡ where_there (has_stock s k) (stock_of k.warehouse k.item)
  stock_get k = un_stock _ _ (p (key.Stock k))

  -- which keys have a row
  pub warehouse_is : (k : WarehouseKey) → is_some (get r.warehouses k) ≡ has_warehouse s k
  warehouse_is k = ap is_some (warehouse_get k) ∙ some_there _ _

  pub district_is : (k : DistrictKey) → is_some (get r.districts k) ≡ has_district s k
  district_is k = ap is_some (district_get k) ∙ some_there _ _

  pub customer_is : (k : CustomerKey) → is_some (get r.customers k) ≡ has_customer s k
  customer_is k = ap is_some (customer_get k) ∙ some_there _ _

  pub history_is : (k : HistoryKey) → is_some (get r.histories k) ≡ has_history s k
  history_is k = ap is_some (history_get k) ∙ some_there _ _

  pub new_order_is : (k : NewOrderKey) → is_some (get r.new_orders k) ≡ has_new_order s k
  new_order_is k = ap is_some (new_order_get k) ∙ some_there _ _

  pub order_is : (k : OrderKey) → is_some (get r.orders k) ≡ has_order s k
  order_is k = ap is_some (order_get k) ∙ some_there _ _

  pub line_is : (k : OrderLineKey) → is_some (get r.order_lines k) ≡ has_line s k
  line_is k = ap is_some (line_get k) ∙ some_there _ _

  item_is : (k : ItemKey) → is_some (get r.items k) ≡ has_item s k
  item_is k = ap is_some (un_item _ _ (p (key.Item k))) ∙ some_there _ _

  stock_is : (k : StockKey) → is_some (get r.stocks k) ≡ has_stock s k
  stock_is k = ap is_some (stock_get k) ∙ some_there _ _

  -- the key of a row has one
  pub held : {A : Type 0} {b : Bool} (o : Option A) (x : A) → is_some o ≡ b → o ≡ Some x → b ≡ true
  held o x is e = sym is ∙ ap is_some e

  -- parts of what says that a key has a row
  pub warehouse_held : (k : DistrictKey) → has_district s k ≡ true → has_warehouse s (warehouse_of_district k) ≡ true
  warehouse_held k t = (and_parts (has_warehouse s (warehouse_of_district k)) (counts_to 10 k.district) t).0

  pub district_held : (k : OrderKey) → has_order s k ≡ true → (has_district s (district_of_order k) ≡ true)
      × (1 ≤ k.order) × (k.order ≤ s.customers)
  district_held k t =
      let a = and_parts (has_district s (district_of_order k)) (counts_to s.customers k.order) t in
      let b = counts s.customers k.order a.1 in (a.0, b.0, b.1)

  pub line_held : (k : OrderLineKey) → has_line s k ≡ true → (has_order s (order_of_line k) ≡ true) × (1 ≤ k.number)
      × (k.number ≤ lines_of k.order)
  line_held k t =
      let a = and_parts (has_order s (order_of_line k)) (counts_to (lines_of k.order) k.number) t in
      let b = counts (lines_of k.order) k.number a.1 in (a.0, b.0, b.1)

  supplied : (k : OrderLineKey) → has_order s (order_of_line k) ≡ true
      → has_stock s (supply_of_line (line_of s k)) ≡ true
  supplied k o =
      let small = mod_below (7 * k.order + 3 * k.number) s.items sc.items.0 in
      and_from (has_warehouse s (warehouse_of_stock (supply_of_line (line_of s k)))) _
      (warehouse_held (district_of_order (order_of_line k)) (district_held (order_of_line k) o).0)
      (counted s.items (item_of_line s k.order k.number) (omega arith) (omega arith))

  meets : Meets r
  meets = record {
    districts = λ k x e. warehouse_is (warehouse_of_district k) ∙ warehouse_held k (held _ x (district_is k) e);
    customers = λ k x e. district_is (district_of_customer k)
        ∙ (and_parts (has_district s (district_of_customer k)) _ (held _ x (customer_is k) e)).0;
    histories = λ k x e.
        let c : has_customer s (counted_customer s k.number) ≡ true =
        (and_parts (has_customer s (counted_customer s k.number)) _ (held _ x (history_is k) e)).0 in
        let same : history_of (counted_customer s k.number) ≡ x = same_there _ _ x (sym (history_get k) ∙ e) in (
          subst (λ (y : History). IsSome (get r.customers y.customer)) same
              (customer_is (counted_customer s k.number) ∙ c),
          subst (λ (y : History). IsSome (get r.districts y.district)) same
              (district_is (district_of_customer (counted_customer s k.number))
              ∙ (and_parts (has_district s (district_of_customer (counted_customer s k.number))) _ c).0),
        );
    new_orders = λ k x e. order_is (order_of_new_order k)
        ∙ (and_parts (has_order s (order_of_new_order k)) _ (held _ x (new_order_is k) e)).0;
    orders = λ k x e.
        subst (λ (y : Order). IsSome (get r.customers (customer_of_order k y)))
        (same_there _ _ x (sym (order_get k) ∙ e))
        (customer_is (customer_of_order k (order_of s k.order)) ∙ held _ x (order_is k) e);
    order_lines = λ k x e.
        let o = (line_held k (held _ x (line_is k) e)).0 in (
          order_is (order_of_line k) ∙ o,
          subst (λ (y : OrderLine). IsSome (get r.stocks (supply_of_line y))) (same_there _ _ x (sym (line_get k) ∙ e))
              (stock_is (supply_of_line (line_of s k)) ∙ supplied k o),
        );
    stocks = λ k x e.
        let t = and_parts (has_warehouse s (warehouse_of_stock k)) _ (held _ x (stock_is k) e) in
        (warehouse_is (warehouse_of_stock k) ∙ t.0, item_is (item_of_stock k) ∙ t.1);
    ten_districts = λ k w low high. district_is k ∙ and_from (has_warehouse s (warehouse_of_district k)) _
        (sym (warehouse_is (warehouse_of_district k)) ∙ w) (counted 10 k.district low high);
  }

  stocked : IsStocked r
  stocked k w i = stock_is k ∙ and_from (has_warehouse s (warehouse_of_stock k)) _
      (sym (warehouse_is (warehouse_of_stock k)) ∙ w) (sym (item_is (item_of_stock k)) ∙ i)

  -- a row counts for a warehouse or a district only if it is there
  pub counts_or : (b : Bool) (n : ℕ) (P : Type 0) → (b ≡ true → P) → (cond b n 0 ≡ 0) ⊎ P
  counts_or true n P f = inr (f refl)
  counts_or false n P f = inl refl

  condition_1 : Condition_1 r
  condition_1 w x e =
      let same : warehouse_of s w.warehouse ≡ x = same_there _ _ x (sym (warehouse_get w) ∙ e) in
      let ytd : s.customers * 10_000 ≡ x.ytd = ap (λ (y : Warehouse). y.ytd) same in
      let sum : ytd_of r w ≡ total 10 (λ i. number_at taken (at i) (get r.districts (at i))) =
      sum-listed district_total exact_district taken 10 at apart r.districts listed in
      let each = total-same 10 (λ i. number_at taken (at i) (get r.districts (at i))) (λ i. s.customers * 1_000)
      each_is in
      let all = total-constant 10 (s.customers * 1_000) in
      omega arith
    where
      at : ℕ → DistrictKey
      at i = record { warehouse = w.warehouse; district = suc i }

      taken : DistrictKey → District → ℕ
      taken h y = if_of_warehouse w h y.ytd

      apart : (i j : ℕ) → i < j → j < 10 → at i ≡ at j → ⊥
      apart i j l h e = let d : suc i ≡ suc j = ap (λ (k : DistrictKey). k.district) e in omega arith

      listed : (k : DistrictKey) (y : District) → get r.districts k ≡ Some y
          → (taken k y ≡ 0) ⊎ ((i : ℕ) × (i < 10) × (at i ≡ k))
      listed k y e = counts_or _ y.ytd _ (λ t.
          let d = counts 10 k.district
          (and_parts (has_warehouse s (warehouse_of_district k)) (counts_to 10 k.district)
          (held _ y (district_is k) e)).1 in
          let a : k.warehouse ≡ w.warehouse = ap (λ (v : WarehouseKey). v.warehouse)
          (is_same warehouse_total exact_warehouse (warehouse_of_district k) w t) in
          let b : suc (k.district - 1) ≡ k.district = omega arith in
          (k.district - 1, omega arith, λ i. record { warehouse = sym a i; district = b i }))

      each_is : (i : ℕ) → i < 10 → number_at taken (at i) (get r.districts (at i)) ≡ s.customers * 1_000
      each_is i l =
          ap (number_at taken (at i))
          (district_get (at i) ∙ ap (λ b. where_there b (district_of s (suc i)))
          (and_from (has_warehouse s w) _ (held _ x (warehouse_is w) e)
          (counted 10 (suc i) (omega arith) (omega arith))))
          ∙ ap (λ b. cond b (s.customers * 1_000) 0) (is_self warehouse_total exact_warehouse w)

  module _ (h : DistrictKey) (there : has_district s h ≡ true) where
    -- the numbers of a district's orders, and of its orders that are not delivered
    order_number : (o : ℕ) → HasOrder r h o → (1 ≤ o) × (o ≤ s.customers)
    order_number o i = let t = district_held (order_in h o) (sym (order_is (order_in h o)) ∙ i) in (t.1, t.2)

    is_order : (o : ℕ) → 1 ≤ o → o ≤ s.customers → HasOrder r h o
    is_order o low high = order_is (order_in h o) ∙ and_from (has_district s h) _ there (counted s.customers o low high)

    new_order_number : (o : ℕ) → HasNewOrder r h o → (last_delivered s < o) × (o ≤ s.customers)
    new_order_number o i =
        let t = and_parts (has_order s (order_in h o)) (not (is_delivered s o))
        (sym (new_order_is (new_order_in h o)) ∙ i) in
        (leb-false o (last_delivered s) (not-true (is_delivered s o) t.1), (district_held (order_in h o) t.0).2)

    is_new_order : (o : ℕ) → last_delivered s < o → o ≤ s.customers → HasNewOrder r h o
    is_new_order o low high =
        new_order_is (new_order_in h o)
        ∙ and_from (has_order s (order_in h o)) _ (sym (order_is (order_in h o)) ∙ is_order o (omega arith) high)
        (ap not (lt-leb o (last_delivered s) low))

    condition_2 : (x : District) → get r.districts h ≡ Some x → Condition_2_at r h x
    condition_2 x e =
        let next : s.customers + 1 ≡ x.next_order = ap (λ (y : District). y.next_order)
        (same_there _ _ x (sym (district_get h) ∙ e)) in
        record {
          orders = (
            s.customers,
            sym next,
            (is_order s.customers sc.customers.0 (omega arith), λ m i. (order_number m i).1),
          );
          new_orders = λ o i.
              let n = new_order_number o i in (
                s.customers,
                sym next,
                (is_new_order s.customers (omega arith) (omega arith), λ m j. (new_order_number m j).1),
              );
        }

    in_district : (g : DistrictKey) → eq_by_cmp district_cmp g h ≡ true → g ≡ h
    in_district g t = is_same district_total exact_district g h t

    own : (n : ℕ) → if_of h h n ≡ n
    own n = ap (λ b. cond b n 0) (is_self district_total exact_district h)

    -- the number of NEW-ORDER rows
    new_orders_are : new_orders_of r h ≡ s.customers - last_delivered s
    new_orders_are =
        sum-listed new_order_total exact_new_order one (s.customers - last_delivered s) at apart r.new_orders listed
        ∙ total-same (s.customers - last_delivered s) (λ i. number_at one (at i) (get r.new_orders (at i))) (λ i. 1)
        each_is
        ∙ total-constant (s.customers - last_delivered s) 1 ∙ omega arith
      where
        at : ℕ → NewOrderKey
        at i = new_order_in h (last_delivered s + suc i)

        one : NewOrderKey → NewOrder → ℕ
        one k y = if_of h (district_of_new_order k) 1

        apart : (i j : ℕ) → i < j → j < s.customers - last_delivered s → at i ≡ at j → ⊥
        apart i j l m e = let d : last_delivered s + suc i ≡ last_delivered s + suc j =
            ap (λ (k : NewOrderKey). k.order) e in omega arith

        listed : (k : NewOrderKey) (y : NewOrder) → get r.new_orders k ≡ Some y
            → (one k y ≡ 0) ⊎ ((i : ℕ) × (i < s.customers - last_delivered s) × (at i ≡ k))
        listed k y e = counts_or _ 1 _ (λ t.
            let g = in_district (district_of_new_order k) t in
            let key : k ≡ new_order_in h k.order =
            λ i. record { warehouse = (g i).warehouse; district = (g i).district; order = k.order } in
            let n = new_order_number k.order (ap (λ q. is_some (get r.new_orders q)) (sym key) ∙ ap is_some e) in (
              k.order - suc (last_delivered s),
              omega arith,
              ap (new_order_in h)
                  (let z : last_delivered s + suc (k.order - suc (last_delivered s)) ≡ k.order = omega arith in z)
                  ∙ sym key,
            ))

        each_is : (i : ℕ) → i < s.customers - last_delivered s → number_at one (at i) (get r.new_orders (at i)) ≡ 1
        each_is i l =
            let row = present_some (get r.new_orders (at i))
            (is_new_order (last_delivered s + suc i) (omega arith) (omega arith)) in
            ap (number_at one (at i)) row.1 ∙ own 1

    condition_3 : Condition_3_at r h
    condition_3 g l most least =
        let a = new_order_number g most.0 in
        let b = new_order_number l least.0 in
        let c = most.1 s.customers (is_new_order s.customers (omega arith) (omega arith)) in
        let d = least.1 (suc (last_delivered s)) (is_new_order (suc (last_delivered s)) (omega arith) (omega arith)) in
        let n = new_orders_are in
        omega arith

    -- the sum of O_OL_CNT
    lines_asked_are : lines_asked r h ≡ total s.customers (λ i. lines_of (suc i))
    lines_asked_are =
        sum-listed order_total exact_order asked s.customers at apart r.orders listed
        ∙ total-same s.customers (λ i. number_at asked (at i) (get r.orders (at i))) (λ i. lines_of (suc i)) each_is
      where
        at : ℕ → OrderKey
        at i = order_in h (suc i)

        asked : OrderKey → Order → ℕ
        asked k y = if_of h (district_of_order k) y.line_count

        apart : (i j : ℕ) → i < j → j < s.customers → at i ≡ at j → ⊥
        apart i j l m e = let d : suc i ≡ suc j = ap (λ (k : OrderKey). k.order) e in omega arith

        listed : (k : OrderKey) (y : Order) → get r.orders k ≡ Some y → (asked k y ≡ 0)
            ⊎ ((i : ℕ) × (i < s.customers) × (at i ≡ k))
        listed k y e = counts_or _ y.line_count _ (λ t.
            let g = in_district (district_of_order k) t in
            let key : k ≡ order_in h k.order =
            λ i. record { warehouse = (g i).warehouse; district = (g i).district; order = k.order } in
            let n = district_held k (held _ y (order_is k) e) in (
              k.order - 1,
              omega arith,
              ap (order_in h) (let z : suc (k.order - 1) ≡ k.order = omega arith in z)
                  ∙ sym key,
            ))

        each_is : (i : ℕ) → i < s.customers → number_at asked (at i) (get r.orders (at i)) ≡ lines_of (suc i)
        each_is i l =
            ap (number_at asked (at i))
            (order_get (at i) ∙ ap (λ b. where_there b (order_of s (suc i)))
            (sym (order_is (at i)) ∙ is_order (suc i) (omega arith) (omega arith)))
            ∙ own (lines_of (suc i))

    -- the number of ORDER-LINE rows: up to 15 of each order
    is_line : ℕ → ℕ
    is_line i = cond (nat_lt (i % 15) (lines_of (suc (i / 15)))) 1 0

    lines_there_are : lines_there r h ≡ total (s.customers * 15) is_line
    unfolding is_line
    lines_there_are =
        sum-listed order_line_total exact_order_line one (s.customers * 15) at apart r.order_lines listed
        ∙ total-same (s.customers * 15) (λ i. number_at one (at i) (get r.order_lines (at i))) is_line each_is
      where
        at : ℕ → OrderLineKey
        at i = line_in (order_in h (suc (i / 15))) (suc (i % 15))

        one : OrderLineKey → OrderLine → ℕ
        one k y = if_of h (district_of_order (order_of_line k)) 1

        apart : (i j : ℕ) → i < j → j < s.customers * 15 → at i ≡ at j → ⊥
        apart i j l m e =
            let c : suc (i / 15) ≡ suc (j / 15) = ap (λ (k : OrderLineKey). k.order) e in
            let d : suc (i % 15) ≡ suc (j % 15) = ap (λ (k : OrderLineKey). k.number) e in
            omega arith

        listed : (k : OrderLineKey) (y : OrderLine) → get r.order_lines k ≡ Some y
            → (one k y ≡ 0) ⊎ ((i : ℕ) × (i < s.customers * 15) × (at i ≡ k))
        listed k y e = counts_or _ 1 _ (λ t.
            let g = in_district (district_of_order (order_of_line k)) t in
            let key : k ≡ line_in (order_in h k.order) k.number =
            λ i. record {
              warehouse = (g i).warehouse;
              district = (g i).district;
              order = k.order;
              number = k.number;
            } in
            let n = line_held k (held _ y (line_is k) e) in
            let m = district_held (order_of_line k) n.0 in
            let a : suc (((k.order - 1) * 15 + (k.number - 1)) / 15) ≡ k.order = omega arith in
            let b : suc (((k.order - 1) * 15 + (k.number - 1)) % 15) ≡ k.number = omega arith in
            ((k.order - 1) * 15 + (k.number - 1), omega arith, (λ i. line_in (order_in h (a i)) (b i)) ∙ sym key))

        each_is : (i : ℕ) → i < s.customers * 15 → number_at one (at i) (get r.order_lines (at i)) ≡ is_line i
        each_is i l = by_test (nat_lt (i % 15) (lines_of (suc (i / 15)))) refl
          where
            order_there : has_order s (order_in h (suc (i / 15))) ≡ true
            order_there = sym (order_is (order_in h (suc (i / 15)))) ∙ is_order (suc (i / 15)) (omega arith)
                (omega arith)

            by_test : (b : Bool) → nat_lt (i % 15) (lines_of (suc (i / 15))) ≡ b
                → number_at one (at i) (get r.order_lines (at i)) ≡ cond b 1 0
            by_test true t =
                let low = ltb-true (i % 15) (lines_of (suc (i / 15))) t in
                ap (number_at one (at i))
                (line_get (at i) ∙ ap (λ b. where_there b (line_of s (at i)))
                (and_from (has_order s (order_in h (suc (i / 15)))) _ order_there
                (counted (lines_of (suc (i / 15))) (suc (i % 15)) (omega arith) low)))
                ∙ own 1
            by_test false t =
                let high = ltb-false (i % 15) (lines_of (suc (i / 15))) t in
                ap (number_at one (at i))
                (line_get (at i) ∙ ap (λ b. where_there b (line_of s (at i)))
                (and_right (has_order s (order_in h (suc (i / 15)))) _
                (and_right (nat_le 1 (suc (i % 15))) _
                (lt-leb (suc (i % 15)) (lines_of (suc (i / 15))) (omega arith)))))

    lines_are : (n : ℕ) → total (n * 15) is_line ≡ total n (λ i. lines_of (suc i))
    unfolding is_line
    lines_are zero = refl
    lines_are (suc n) =
        let size : suc n * 15 ≡ n * 15 + 15 = omega arith in
        let own = total-same 15 (λ j. is_line (n * 15 + j)) (λ j. cond (nat_lt j (lines_of (suc n))) 1 0)
        (λ j l. ordinal j l) in
        let all = total-below 15 (lines_of (suc n)) in
        let rest = lines_are n in
        let cut = total-add (n * 15) 15 is_line in
        ap (λ m. total m is_line) size ∙ omega arith
      where
        ordinal : (j : ℕ) → j < 15 → is_line (n * 15 + j) ≡ cond (nat_lt j (lines_of (suc n))) 1 0
        ordinal j l =
            let a : (n * 15 + j) % 15 ≡ j = omega arith in
            let b : (n * 15 + j) / 15 ≡ n = omega arith in
            λ i. cond (nat_lt (a i) (lines_of (suc (b i)))) 1 0

  is_population : IsPopulation r
  is_population = record {
    meets = meets;
    condition_1 = condition_1;
    condition_2 = λ h x e. condition_2 h (held _ x (district_is h) e) x e;
    condition_3 = λ h i. condition_3 h (sym (district_is h) ∙ i);
    condition_4 = λ h i. let t = sym (district_is h) ∙ i in
        lines_asked_are h t ∙ sym (lines_there_are h t ∙ lines_are h t s.customers);
    stocked = stocked;
    histories = λ k x e.
        let c = counted_customer s k.number in
        ap (λ (q : HistoryKey). q.terminal)
        (is_same history_total exact_history k (history_key s c)
        (and_parts (has_customer s c) _ (held _ x (history_is k) e)).1);
  }

-- a HISTORY key's number counts its customer
pub counts_customer : (s : Scale) (c : CustomerKey) → has_customer s c ≡ true
    → counted_customer s (history_key s c).number ≡ c
counts_customer s c t =
    let a = and_parts (has_district s (district_of_customer c)) (counts_to s.customers c.customer) t in
    let b = and_parts (has_warehouse s (warehouse_of_district (district_of_customer c))) (counts_to 10 c.district)
    a.0 in
    let customer_in = counts s.customers c.customer a.1 in
    let district_in = counts 10 c.district b.1 in
    let warehouse_in = counts s.warehouses c.warehouse b.0 in
    let ordinal = (c.warehouse - 1) * 10 + (c.district - 1) in
    let before : ((c.warehouse - 1) * 10 + (c.district - 1)) * s.customers + c.customer - 1
    ≡ ((c.warehouse - 1) * 10 + (c.district - 1)) * s.customers + (c.customer - 1) = omega arith in
    let low : c.customer - 1 < s.customers = omega arith in
    let high = ap (λ n. n / s.customers) before ∙ div-mul-add ((c.warehouse - 1) * 10 + (c.district - 1)) s.customers
    (c.customer - 1) low in
    let rest = ap (λ n. n % s.customers) before ∙ mod-mul-add ((c.warehouse - 1) * 10 + (c.district - 1)) s.customers
    (c.customer - 1) low in
    let w : 1 + ((c.warehouse - 1) * 10 + (c.district - 1)) / 10 ≡ c.warehouse = omega arith in
    let d : 1 + ((c.warehouse - 1) * 10 + (c.district - 1)) % 10 ≡ c.district = omega arith in
    let e : 1 + (c.customer - 1) ≡ c.customer = omega arith in
    (λ i. record { warehouse = 1 + high i / 10; district = 1 + high i % 10; customer = 1 + rest i })
    ∙ (λ i. record { warehouse = w i; district = d i; customer = e i })

has_its_history : (s : Scale) (c : CustomerKey) → has_customer s c ≡ true
    → formula s (key.History (history_key s c)) ≡ Some (row.History (history_of c))
has_its_history s c t =
    subst (λ (q : CustomerKey). option_map row.History
    (where_there (has_customer s q && eq_by_cmp history_cmp (history_key s c) (history_key s q)) (history_of q))
    ≡ Some (row.History (history_of c)))
    (sym (counts_customer s c t))
    (ap (λ b. option_map row.History (where_there b (history_of c)))
    (and_from (has_customer s c) _ t (is_self history_total exact_history (history_key s c))))

-- S_DIST_dd of a stock row
dist_of : (w i d : ℕ) → 1 ≤ d → d ≤ 10 → dist_text w d i ≡ get_or (stock_of w i).dist_info (d - 1) []
dist_of w i d low high =
    sym (get_or-map-range_with_len (λ n. dist_text w n i) 1 10 (d - 1) d [] (omega arith) (omega arith))

line_dist_info : (s : Scale) (r : Rows) (k : OrderLineKey) (x : OrderLine) → IsScale s → IsPopulated s r
    → get r.order_lines k ≡ Some x
    → (y : Stock) × (get r.stocks (supply_of_line x) ≡ Some y) × (x.dist_info ≡ get_or y.dist_info (k.district - 1) [])
line_dist_info s r k x sc p e =
    let o = (line_held s r sc p k (held s r sc p _ x (line_is s r sc p k) e)).0 in
    let d = district_held s r sc p (order_of_line k) o in
    let n = counts 10 k.district
    (and_parts (has_warehouse s (warehouse_of_district (district_of_order (order_of_line k)))) _ d.0).1 in
    subst (λ (z : OrderLine). (y : Stock) × (get r.stocks (supply_of_line z) ≡ Some y)
    × (z.dist_info ≡ get_or y.dist_info (k.district - 1) [])) (same_there _ _ x (sym (line_get s r sc p k) ∙ e)) (
      stock_of k.warehouse (item_of_line s k.order k.number),
      stock_get s r sc p (supply_of_line (line_of s k))
          ∙ ap (λ b. where_there b (stock_of k.warehouse (item_of_line s k.order k.number))) (supplied s r sc p k o),
      dist_of k.warehouse (item_of_line s k.order k.number) k.district n.0 n.1,
    )

pub population_is_one : Population_is_one
population_is_one = record { is_population = is_population; has_history = has_its_history; dist_info = line_dist_info }
