-- References and stocks are checked, and keys stand once.
use Rattle.std.proofs.Common.{◌≡◌, refl, sym, ◌∙◌, ap, subst, Bool, true, false, Option, Some, None, ℤ, pos, ◌+ℤ◌}
use Rattle.std.proofs.Common.{nat_eq, List}
use Rattle.std.specs.Prelude.{◌↔◌, IsSome, is_some, option_map}
use Rattle.std.specs.Cmp.{IsTotalOrder}
use Rattle.std.specs.Ordering.{eq_by_cmp}
use Rattle.std.specs.declared.cmp.Ordering.{Ordering}
use Rattle.std.specs.FinMap.{FinMap, IsAntisymmetric, get}
use lib.IntN.{+ℤ_assoc, +ℤ_comm}
use Rattle.oe_rows.specs.declared.keys.WarehouseKey.{WarehouseKey}
use Rattle.oe_rows.specs.declared.keys.DistrictKey.{DistrictKey}
use Rattle.oe_rows.specs.declared.keys.CustomerKey.{CustomerKey}
use Rattle.oe_rows.specs.declared.keys.HistoryKey.{HistoryKey}
use Rattle.oe_rows.specs.declared.keys.NewOrderKey.{NewOrderKey}
use Rattle.oe_rows.specs.declared.keys.OrderKey.{OrderKey}
use Rattle.oe_rows.specs.declared.keys.OrderLineKey.{OrderLineKey}
use Rattle.oe_rows.specs.declared.keys.ItemKey.{ItemKey}
use Rattle.oe_rows.specs.declared.keys.StockKey.{StockKey}
use Rattle.oe_rows.specs.declared.districts.District.{District}
use Rattle.oe_rows.specs.declared.customers.Customer.{Customer}
use Rattle.oe_rows.specs.declared.histories.History.{History}
use Rattle.oe_rows.specs.declared.orders.NewOrder.{NewOrder}
use Rattle.oe_rows.specs.declared.orders.Order.{Order}
use Rattle.oe_rows.specs.declared.orders.OrderLine.{OrderLine}
use Rattle.oe_rows.specs.declared.items.Stock.{Stock}
use Rattle.oe_rows.proofs.KeyFacts.{warehouse_total, exact_warehouse, district_total, exact_district, customer_total}
use Rattle.oe_rows.proofs.KeyFacts.{exact_customer, history_total, exact_history, new_order_total, exact_new_order}
use Rattle.oe_rows.proofs.KeyFacts.{order_total, exact_order, order_line_total, exact_order_line, item_total}
use Rattle.oe_rows.proofs.KeyFacts.{exact_item, stock_total, exact_stock}
use Rattle.oe_model.specs.Keys.{warehouse_of_district, district_of_customer, order_of_new_order, customer_of_order}
use Rattle.oe_model.specs.Keys.{order_of_line, supply_of_line, warehouse_of_stock, item_of_stock}
use Rattle.oe_model.specs.Rows.{Rows}
use Rattle.oe_model.specs.Conditions.{IsStocked}
use Rattle.oe_model.specs.Meets.{Meets}
use Rattle.oe_model.proofs.MapFacts.{is_same, is_self}
use Rattle.oe_model.proofs.PresenceFacts.{present_some}
use Rattle.oe_ledgers.specs.Keys as ids
use Rattle.oe_ledgers.specs.Keys.{same_district, same_customer, same_order, same_stock, stock_of_line}
use Rattle.oe_ledgers.specs.Figures.{sum_of, warehouse_rows, district_rows, customer_rows, new_order_rows, order_rows}
use Rattle.oe_ledgers.specs.Figures.{item_rows, stock_rows}
use Rattle.oe_checks.specs.Comparing.{orphans_apart, repeats_apart}
use Rattle.oe_checks.specs.References as references
use Rattle.oe_checks.specs.Sizes.{stock_apart, missing_stock}
use Rattle.oe_fact_laws.specs.Facts.{Facts, AreFactsOf, AreOf, warehouse_fact, district_fact, customer_fact}
use Rattle.oe_fact_laws.specs.Facts.{history_fact, new_order_fact, order_fact, line_fact, item_fact, stock_fact}
use Rattle.oe_fact_laws.specs.Facts.{district_id, customer_id, order_id, stock_id}
use Rattle.oe_fact_laws.specs.FactLaws.{FindsNothing, ReferencesFindNothing, HasTenDistricts, KeysStandOnce}
use Rattle.oe_fact_laws.proofs.FigureFacts.{of_row, none_there, some_there}
use Rattle.oe_fact_laws.proofs.TiedFacts.{warehouse_tie, district_tie, customer_tie, order_tie, item_tie, stock_tie}
use Rattle.oe_fact_laws.proofs.TiedFacts.{both_ways}

-- rows of one table refer to rows of another
module _ {K X F J L Y : Type 0} {R : K → K → Ordering} {S : L → L → Ordering} (o : IsTotalOrder R)
    (exact : IsAntisymmetric R) (p : IsTotalOrder S) (exactly : IsAntisymmetric S) (fact : K → X → F) (m : FinMap R X)
    (facts : List F) (are : AreOf fact m facts) (same : J → J → Bool)
    (key : F → J) (t : FinMap S Y) (there : J → Option ℤ) (id : L → J) (back : J → L)
    (each : (j : J) → id (back j) ≡ j)
    (tie : (a b : L) → same (id a) (id b) ≡ eq_by_cmp S a b)
    (there_is : (q : L) → there (id q) ≡ option_map (λ y. pos 1) (get t q)) (target : K → X → L)
    (key_is : (k : K) (x : X) → key (fact k x) ≡ id (target k x)) where
  abbrev count : J → Option ℤ
  count j = sum_of same key (λ f. pos 1) facts j

  referred : (j : J) (v : Option ℤ) → count j ≡ v → orphans_apart (count j) (there j) ≡ None → (k : K) (x : X)
      → get m k ≡ Some x → id (target k x) ≡ j → IsSome (get t (target k x))
  referred j None e h k x at is =
      let out : same (key (fact k x)) j ≡ false =
      none_there o exact fact m facts are same key (λ a b. a +ℤ b) +ℤ_assoc +ℤ_comm (λ f. pos 1) j e k x at in
      let inside : same (key (fact k x)) j ≡ true =
      (λ i. same (key_is k x i) (sym is i)) ∙ tie (target k x) (target k x) ∙ is_self p exactly (target k x) in
      let no : true ≡ false = sym inside ∙ out in
      absurd (let z : ⊥ = cc in z)
  referred j (Some n) e h k x at is = go (get t (target k x)) refl
    where
      go : (v : Option Y) → get t (target k x) ≡ v → is_some v ≡ true
      go (Some y) s = refl
      go None s =
          let none : there j ≡ None = ap there (sym is) ∙ there_is (target k x) ∙ ap (option_map (λ y. pos 1)) s in
          let found : orphans_apart (Some n) None ≡ None = (λ i. orphans_apart (sym e i) (sym none i)) ∙ h in
          let no : ⊥ = cc in absurd no

  nothing : (q : L) (v : Option ℤ) → count (id q) ≡ v
      → ((k : K) (x : X) → get m k ≡ Some x → IsSome (get t (target k x)))
      → orphans_apart (count (id q)) (there (id q)) ≡ None
  nothing q None e c = ap (λ v. orphans_apart v (there (id q))) e
  nothing q (Some n) e c =
      let row = some_there o exact fact m facts are same key (λ a b. a +ℤ b) +ℤ_assoc +ℤ_comm (λ f. pos 1) (id q) n
      e in
      let here : target row.0 row.1 ≡ q =
      is_same p exactly (target row.0 row.1) q
      (sym (tie (target row.0 row.1) q) ∙ ap (λ j. same j (id q)) (sym (key_is row.0 row.1)) ∙ row.3) in
      let y = present_some (get t q) (subst (λ (i : L). IsSome (get t i)) here (c row.0 row.1 row.2)) in
      let some : there (id q) ≡ Some (pos 1) = there_is q ∙ ap (option_map (λ z. pos 1)) y.1 in
      (λ i. orphans_apart (e i) (some i))

  pub refers : FindsNothing (λ j. orphans_apart (count j) (there j))
      ↔ ((k : K) (x : X) → get m k ≡ Some x → IsSome (get t (target k x)))
  refers = (
    λ h k x at. referred (id (target k x)) (count (id (target k x))) refl (h (id (target k x))) k x at refl,
    λ c j. subst (λ i. orphans_apart (count i) (there i) ≡ None) (each j)
        (nothing (back j) (count (id (back j))) refl c),
  )

module _ (f : Facts) (r : Rows) (are : AreFactsOf f r) where
  -- the number of rows of a key: 1, or none
  warehouses_are : (k : WarehouseKey) → warehouse_rows f.warehouses k.warehouse ≡ option_map (λ x. pos 1)
      (get r.warehouses k)
  warehouses_are k =
      of_row warehouse_total exact_warehouse warehouse_fact r.warehouses f.warehouses are.warehouses nat_eq
      (λ z. z.warehouse) (λ a b. a +ℤ b) +ℤ_assoc +ℤ_comm (λ z. pos 1) (λ i. i.warehouse)
      (λ a x b. warehouse_tie a b) k

  districts_are : (k : DistrictKey) → district_rows f.districts (district_id k) ≡ option_map (λ x. pos 1)
      (get r.districts k)
  districts_are k =
      of_row district_total exact_district district_fact r.districts f.districts are.districts same_district
      (λ z. z.key) (λ a b. a +ℤ b) +ℤ_assoc +ℤ_comm (λ z. pos 1) district_id (λ a x b. district_tie a b) k

  customers_are : (k : CustomerKey) → customer_rows f.customers (customer_id k) ≡ option_map (λ x. pos 1)
      (get r.customers k)
  customers_are k =
      of_row customer_total exact_customer customer_fact r.customers f.customers are.customers same_customer
      (λ z. z.key) (λ a b. a +ℤ b) +ℤ_assoc +ℤ_comm (λ z. pos 1) customer_id (λ a x b. customer_tie a b) k

  new_orders_are : (k : NewOrderKey) → new_order_rows f.new_orders (order_id (order_of_new_order k)) ≡ option_map
      (λ x. pos 1) (get r.new_orders k)
  new_orders_are k =
      of_row new_order_total exact_new_order new_order_fact r.new_orders f.new_orders are.new_orders same_order
      (λ z. z.key) (λ a b. a +ℤ b) +ℤ_assoc +ℤ_comm (λ z. pos 1) (λ i. order_id (order_of_new_order i))
      (λ a x b. order_tie (order_of_new_order a) (order_of_new_order b)) k

  orders_are : (k : OrderKey) → order_rows f.orders (order_id k) ≡ option_map (λ x. pos 1) (get r.orders k)
  orders_are k =
      of_row order_total exact_order order_fact r.orders f.orders are.orders same_order (λ z. z.key)
      (λ a b. a +ℤ b) +ℤ_assoc +ℤ_comm (λ z. pos 1) order_id (λ a x b. order_tie a b) k

  items_are : (k : ItemKey) → item_rows f.items k.item ≡ option_map (λ x. pos 1) (get r.items k)
  items_are k =
      of_row item_total exact_item item_fact r.items f.items are.items nat_eq (λ z. z.item) (λ a b. a +ℤ b)
      +ℤ_assoc +ℤ_comm (λ z. pos 1) (λ i. i.item) (λ a x b. item_tie a b) k

  stocks_are : (k : StockKey) → stock_rows f.stocks (stock_id k) ≡ option_map (λ x. pos 1) (get r.stocks k)
  stocks_are k =
      of_row stock_total exact_stock stock_fact r.stocks f.stocks are.stocks same_stock (λ z. z.key)
      (λ a b. a +ℤ b) +ℤ_assoc +ℤ_comm (λ z. pos 1) stock_id (λ a x b. stock_tie a b) k

  -- REFERENCES

  districts : FindsNothing (references.districts_refer f.districts f.warehouses)
      ↔ ((k : DistrictKey) (x : District) → get r.districts k ≡ Some x
      → IsSome (get r.warehouses (warehouse_of_district k)))
  districts =
      refers district_total exact_district warehouse_total exact_warehouse district_fact r.districts f.districts
      are.districts nat_eq
      (λ z. z.key.warehouse) r.warehouses (warehouse_rows f.warehouses) (λ i. i.warehouse)
      (λ j. record { warehouse = j }) (λ j. refl) warehouse_tie warehouses_are
      (λ k x. warehouse_of_district k) (λ k x. refl)

  customers : FindsNothing (references.customers_refer f.customers f.districts)
      ↔ ((k : CustomerKey) (x : Customer) → get r.customers k ≡ Some x
      → IsSome (get r.districts (district_of_customer k)))
  customers =
      refers customer_total exact_customer district_total exact_district customer_fact r.customers f.customers
      are.customers same_district
      (λ z. ids.district_of_customer z.key) r.districts (district_rows f.districts) district_id
      (λ j. record { warehouse = j.warehouse; district = j.district }) (λ j. refl) district_tie districts_are
      (λ k x. district_of_customer k) (λ k x. refl)

  payers : FindsNothing (references.histories_refer_to_customers f.histories f.customers)
      ↔ ((k : HistoryKey) (x : History) → get r.histories k ≡ Some x → IsSome (get r.customers (x.customer)))
  payers =
      refers history_total exact_history customer_total exact_customer history_fact r.histories f.histories
      are.histories same_customer
      (λ z. z.customer) r.customers (customer_rows f.customers) customer_id
      (λ j. record { warehouse = j.warehouse; district = j.district; customer = j.customer }) (λ j. refl)
      customer_tie customers_are
      (λ k x. x.customer) (λ k x. refl)

  payments : FindsNothing (references.histories_refer_to_districts f.histories f.districts)
      ↔ ((k : HistoryKey) (x : History) → get r.histories k ≡ Some x → IsSome (get r.districts (x.district)))
  payments =
      refers history_total exact_history district_total exact_district history_fact r.histories f.histories
      are.histories same_district
      (λ z. z.district) r.districts (district_rows f.districts) district_id
      (λ j. record { warehouse = j.warehouse; district = j.district }) (λ j. refl) district_tie districts_are
      (λ k x. x.district) (λ k x. refl)

  new_orders : FindsNothing (references.new_orders_refer f.new_orders f.orders)
      ↔ ((k : NewOrderKey) (x : NewOrder) → get r.new_orders k ≡ Some x
      → IsSome (get r.orders (order_of_new_order k)))
  new_orders =
      refers new_order_total exact_new_order order_total exact_order new_order_fact r.new_orders f.new_orders
      are.new_orders same_order
      (λ z. z.key) r.orders (order_rows f.orders) order_id
      (λ j. record { warehouse = j.warehouse; district = j.district; order = j.order }) (λ j. refl) order_tie
      orders_are
      (λ k x. order_of_new_order k) (λ k x. refl)

  orders : FindsNothing (references.orders_refer f.orders f.customers)
      ↔ ((k : OrderKey) (x : Order) → get r.orders k ≡ Some x → IsSome (get r.customers (customer_of_order k x)))
  orders =
      refers order_total exact_order customer_total exact_customer order_fact r.orders f.orders are.orders
      same_customer
      (λ z. ids.customer_of_order z) r.customers (customer_rows f.customers) customer_id
      (λ j. record { warehouse = j.warehouse; district = j.district; customer = j.customer }) (λ j. refl)
      customer_tie customers_are
      (λ k x. customer_of_order k x) (λ k x. refl)

  lines : FindsNothing (references.lines_refer_to_orders f.order_lines f.orders)
      ↔ ((k : OrderLineKey) (x : OrderLine) → get r.order_lines k ≡ Some x → IsSome (get r.orders (order_of_line k)))
  lines =
      refers order_line_total exact_order_line order_total exact_order line_fact r.order_lines f.order_lines
      are.order_lines same_order
      (λ z. z.order) r.orders (order_rows f.orders) order_id
      (λ j. record { warehouse = j.warehouse; district = j.district; order = j.order }) (λ j. refl) order_tie
      orders_are
      (λ k x. order_of_line k) (λ k x. refl)

  supplies : FindsNothing (references.lines_refer_to_stocks f.order_lines f.stocks)
      ↔ ((k : OrderLineKey) (x : OrderLine) → get r.order_lines k ≡ Some x → IsSome (get r.stocks (supply_of_line x)))
  supplies =
      refers order_line_total exact_order_line stock_total exact_stock line_fact r.order_lines f.order_lines
      are.order_lines same_stock
      (λ z. stock_of_line z) r.stocks (stock_rows f.stocks) stock_id
      (λ j. record { warehouse = j.warehouse; item = j.item }) (λ j. refl) stock_tie stocks_are
      (λ k x. supply_of_line x) (λ k x. refl)

  homes : FindsNothing (references.stocks_refer_to_warehouses f.stocks f.warehouses)
      ↔ ((k : StockKey) (x : Stock) → get r.stocks k ≡ Some x → IsSome (get r.warehouses (warehouse_of_stock k)))
  homes =
      refers stock_total exact_stock warehouse_total exact_warehouse stock_fact r.stocks f.stocks are.stocks nat_eq
      (λ z. z.key.warehouse) r.warehouses (warehouse_rows f.warehouses) (λ i. i.warehouse)
      (λ j. record { warehouse = j }) (λ j. refl) warehouse_tie warehouses_are
      (λ k x. warehouse_of_stock k) (λ k x. refl)

  items : FindsNothing (references.stocks_refer_to_items f.stocks f.items)
      ↔ ((k : StockKey) (x : Stock) → get r.stocks k ≡ Some x → IsSome (get r.items (item_of_stock k)))
  items =
      refers stock_total exact_stock item_total exact_item stock_fact r.stocks f.stocks are.stocks nat_eq
      (λ z. z.key.item) r.items (item_rows f.items) (λ i. i.item) (λ j. record { item = j }) (λ j. refl) item_tie
      items_are
      (λ k x. item_of_stock k) (λ k x. refl)

  pub schema : (ReferencesFindNothing f × HasTenDistricts r) ↔ Meets r
  schema = (
    λ p. record {
      districts = districts.0 p.0.districts;
      customers = customers.0 p.0.customers;
      histories = λ k x e. (payers.0 p.0.payers k x e, payments.0 p.0.payments k x e);
      new_orders = new_orders.0 p.0.new_orders;
      orders = orders.0 p.0.orders;
      order_lines = λ k x e. (lines.0 p.0.lines k x e, supplies.0 p.0.supplies k x e);
      stocks = λ k x e. (homes.0 p.0.homes k x e, items.0 p.0.items k x e);
      ten_districts = p.1;
    },
    λ m. (
      record {
        districts = districts.1 m.districts;
        customers = customers.1 m.customers;
        payers = payers.1 (λ k x e. (m.histories k x e).0);
        payments = payments.1 (λ k x e. (m.histories k x e).1);
        new_orders = new_orders.1 m.new_orders;
        orders = orders.1 m.orders;
        lines = lines.1 (λ k x e. (m.order_lines k x e).0);
        supplies = supplies.1 (λ k x e. (m.order_lines k x e).1);
        homes = homes.1 (λ k x e. (m.stocks k x e).0);
        items = items.1 (λ k x e. (m.stocks k x e).1);
      },
      m.ten_districts,
    ),
  )

  -- STOCKS

  pub stocks_checked : FindsNothing (stock_apart f.warehouses f.items f.stocks) ↔ IsStocked r
  stocks_checked = (
    λ h k. (tied k).0 (h (stock_id k)),
    λ c j. back c (record { warehouse = j.warehouse; item = j.item }),
  )
    where
      of_options : {A B C : Type 0} (a : Option A) (b : Option B) (c : Option C)
          → (missing_stock (option_map (λ x. pos 1) a) (option_map (λ x. pos 1) b) (option_map (λ x. pos 1) c) ≡ None)
          ↔ (IsSome a → IsSome b → IsSome c)
      of_options None b c = (λ _ p q. let no : ⊥ = cc in absurd no, λ _. refl)
      of_options (Some x) None c = (λ _ p q. let no : ⊥ = cc in absurd no, λ _. refl)
      of_options (Some x) (Some y) None = (
        λ e. let no : ⊥ = cc in absurd no,
        λ h.
            let n : false ≡ true = h refl refl in let no : ⊥ = cc in absurd no,
      )
      of_options (Some x) (Some y) (Some z) = (λ _ p q. refl, λ _. refl)

      tied : (k : StockKey) → (stock_apart f.warehouses f.items f.stocks (stock_id k) ≡ None)
          ↔ (IsSome (get r.warehouses (warehouse_of_stock k)) → IsSome (get r.items (item_of_stock k))
          → IsSome (get r.stocks k))
      tied k =
          let is : stock_apart f.warehouses f.items f.stocks (stock_id k) ≡ missing_stock
          (option_map (λ x. pos 1) (get r.warehouses (warehouse_of_stock k)))
          (option_map (λ x. pos 1) (get r.items (item_of_stock k))) (option_map (λ x. pos 1) (get r.stocks k)) =
          (λ i. missing_stock (warehouses_are (warehouse_of_stock k) i) (items_are (item_of_stock k) i)
          (stocks_are k i))
          in
          both_ways (λ e. sym is ∙ e, λ e. is ∙ e) (of_options (get r.warehouses (warehouse_of_stock k))
          (get r.items (item_of_stock k)) (get r.stocks k))

      back : IsStocked r → (k : StockKey) → stock_apart f.warehouses f.items f.stocks (stock_id k) ≡ None
      back c k = (tied k).1 (c k)

  -- KEYS

  once : {A : Type 0} (s : Option ℤ) (v : Option A) → s ≡ option_map (λ x. pos 1) v → repeats_apart s ≡ None
  once s v e = ap repeats_apart e ∙ one v
    where
      one : {A : Type 0} (v : Option A) → repeats_apart (option_map (λ (x : A). pos 1) v) ≡ None
      one None = refl
      one (Some x) = refl

  pub keys : KeysStandOnce f
  keys = record {
    warehouses = λ j. once _ _ (warehouses_are (record { warehouse = j }));
    districts = λ j. once _ _ (districts_are (record { warehouse = j.warehouse; district = j.district }));
    customers = λ j. once _ _
        (customers_are (record { warehouse = j.warehouse; district = j.district; customer = j.customer }));
    new_orders = λ j. once _ _
        (new_orders_are (record { warehouse = j.warehouse; district = j.district; order = j.order }));
    orders = λ j. once _ _ (orders_are (record { warehouse = j.warehouse; district = j.district; order = j.order }));
    items = λ j. once _ _ (items_are (record { item = j }));
    stocks = λ j. once _ _ (stocks_are (record { warehouse = j.warehouse; item = j.item }));
  }
