-- Tables that have the population by formula.
use Rattle.std.proofs.Common.{◌≡◌, ℕ, zero, suc, ◌+◌, ◌*◌, ◌/◌, ◌%◌, ◌<◌, refl, sym, ◌∙◌, ap, subst, Bool, true, false}
use Rattle.std.proofs.Common.{cond, Option, Some, None, inl, inr, arith}
use Rattle.std.specs.Prelude.{◌⊎◌, option_map}
use Rattle.std.specs.declared.cmp.Ordering.{Ordering}
use Rattle.std.specs.Cmp.{IsTotalOrder}
use Rattle.std.specs.Ordering.{eq_by_cmp}
use Rattle.std.specs.FinMap.{FinMap, IsAntisymmetric, get, empty, get-empty, get-insert, get-remove}
use Rattle.std.proofs.lemmas.Bool.{cases_order}
use Rattle.oe_rows.specs.declared.scales.Scale.{Scale}
use Rattle.oe_rows.specs.declared.keys.WarehouseKey.{WarehouseKey}
use Rattle.oe_rows.specs.declared.keys.DistrictKey.{DistrictKey}
use Rattle.oe_rows.specs.declared.keys.CustomerKey.{CustomerKey}
use Rattle.oe_rows.specs.declared.keys.HistoryKey.{HistoryKey}
use Rattle.oe_rows.specs.declared.keys.NewOrderKey.{NewOrderKey}
use Rattle.oe_rows.specs.declared.keys.OrderKey.{OrderKey}
use Rattle.oe_rows.specs.declared.keys.OrderLineKey.{OrderLineKey}
use Rattle.oe_rows.specs.declared.keys.ItemKey.{ItemKey}
use Rattle.oe_rows.specs.declared.keys.StockKey.{StockKey}
use Rattle.oe_rows.specs.declared.keys.Key.TheVariants as key
use Rattle.oe_rows.specs.declared.warehouses.Warehouse.{Warehouse}
use Rattle.oe_rows.specs.declared.districts.District.{District}
use Rattle.oe_rows.specs.declared.customers.Customer.{Customer}
use Rattle.oe_rows.specs.declared.histories.History.{History}
use Rattle.oe_rows.specs.declared.orders.NewOrder.{NewOrder}
use Rattle.oe_rows.specs.declared.orders.Order.{Order}
use Rattle.oe_rows.specs.declared.orders.OrderLine.{OrderLine}
use Rattle.oe_rows.specs.declared.items.Item.{Item}
use Rattle.oe_rows.specs.declared.items.Stock.{Stock}
use Rattle.oe_rows.specs.declared.rows.Row.TheVariants as row
use Rattle.oe_rows.proofs.KeyFacts.{warehouse_total, exact_warehouse, district_total, exact_district, customer_total}
use Rattle.oe_rows.proofs.KeyFacts.{exact_customer, history_total, exact_history, new_order_total, exact_new_order}
use Rattle.oe_rows.proofs.KeyFacts.{order_total, exact_order, order_line_total, exact_order_line, item_total}
use Rattle.oe_rows.proofs.KeyFacts.{exact_item, stock_total, exact_stock}
use Rattle.oe_model.specs.Rows.{Rows, with_row}
use Rattle.oe_model.specs.Population.{IsScale, IsPopulated, where_there, has_warehouse, has_district, has_customer}
use Rattle.oe_model.specs.Population.{has_history, has_order, has_new_order, has_line, has_item, has_stock}
use Rattle.oe_model.specs.Population.{warehouse_of, district_of, customer_of, history_of, counted_customer, order_of}
use Rattle.oe_model.specs.Population.{line_of, item_of, stock_of}
use Rattle.oe_model.specs.PopulationRanges.{Population_exists}
use Rattle.oe_model.proofs.MapFacts.{is_same, is_self}
use Rattle.oe_model.proofs.PopulationRangeFacts.{in_range}

-- the rows of the first n listed keys
module _ {K X : Type 0} {R : K → K → Ordering} (g : K → Option X) (at : ℕ → K) where
  pub built : ℕ → FinMap R X
  built zero = empty
  built (suc n) = with_row (at n) (g (at n)) (built n)

module _ {K X : Type 0} {R : K → K → Ordering} (o : IsTotalOrder R) (exact : IsAntisymmetric R) (g : K → Option X)
    (at : ℕ → K) where
  get-with_row : (m : FinMap R X) (k : K) (v : Option X) (q : K)
      → get (with_row k v m) q ≡ cond (eq_by_cmp R q k) v (get m q)
  get-with_row m k None q = get-remove o m k q
  get-with_row m k (Some x) q = get-insert o m k x q

  pub rows : ℕ → FinMap R X
  rows n = built g at n

  -- the row of a key, or none where the key is not listed
  abbrev IsOf : ℕ → K → Option X → Type 0
  IsOf n q v = (v ≡ g q) ⊎ ((v ≡ None) × ((i : ℕ) → i < n → at i ≡ q → ⊥))

  get-rows : (n : ℕ) (q : K) → get (rows (suc n)) q ≡ cond (eq_by_cmp R q (at n)) (g (at n)) (get (rows n) q)
  unfolding rows built
  get-rows n q = get-with_row (built g at n) (at n) (g (at n)) q

  listed_or : (n : ℕ) (q : K) → IsOf n q (get (rows n) q)
  unfolding rows built
  listed_or zero q = inr (get-empty R q, λ i l e. let no : ⊥ = omega arith in no)
  listed_or (suc n) q = subst (IsOf (suc n) q) (sym (get-rows n q))
      (by_key (eq_by_cmp R q (at n)) refl (get (rows n) q) (listed_or n q))
    where
      by_key : (b : Bool) → eq_by_cmp R q (at n) ≡ b → (v : Option X) → IsOf n q v
          → IsOf (suc n) q (cond b (g (at n)) v)
      by_key true t v h = inl (ap g (sym (is_same o exact q (at n) t)))
      by_key false t v (inl e) = inl e
      by_key false t v (inr p) = inr (p.0, λ i l e. other i l e (cases_order i n))
        where
          other : (i : ℕ) → i < suc n → at i ≡ q → (i ≡ n) ⊎ ((i < n) ⊎ (n < i)) → ⊥
          other i l e (inl same) =
              let here : q ≡ at n = sym e ∙ ap at same in
              let z : false ≡ true = sym t ∙ ap (λ k. eq_by_cmp R k (at n)) here ∙ is_self o exact (at n) in
              let no : ⊥ = cc in no
          other i l e (inr (inl low)) = p.1 i low e
          other i l e (inr (inr high)) = let no : ⊥ = omega arith in no

  -- where each row is listed the map has them all
  pub rows_are : (n : ℕ) → ((q : K) (x : X) → g q ≡ Some x → (i : ℕ) × (i < n) × (at i ≡ q)) → (q : K)
      → get (rows n) q ≡ g q
  rows_are n listed q = by_list (get (rows n) q) (listed_or n q) (g q) refl
    where
      by_list : (u : Option X) → IsOf n q u → (v : Option X) → g q ≡ v → u ≡ g q
      by_list u (inl e) v s = e
      by_list u (inr p) None s = p.0 ∙ sym s
      by_list u (inr p) (Some x) s = let w = listed q x s in absurd (p.1 w.0 w.1 w.2)

module _ (s : Scale) (sc : IsScale s) where
  warehouse_row : WarehouseKey → Option Warehouse
  warehouse_row k = where_there (has_warehouse s k) (warehouse_of s k.warehouse)

  warehouse_at : ℕ → WarehouseKey
  warehouse_at i = record { warehouse = i }

  warehouses_are : (k : WarehouseKey) → get (rows warehouse_total exact_warehouse warehouse_row warehouse_at 17)
      k ≡ warehouse_row k
  unfolding warehouse_row warehouse_at
  warehouses_are = rows_are warehouse_total exact_warehouse warehouse_row warehouse_at 17 (λ k x e.
      let t = (in_range s sc (key.Warehouse k) (row.Warehouse x) (ap (option_map row.Warehouse) e)).0 in
      let warehouse_in = t in
      let warehouse_is : k.warehouse ≡ k.warehouse = omega arith in
      (k.warehouse, omega arith, λ i. record { warehouse = warehouse_is i }))

  district_row : DistrictKey → Option District
  district_row k = where_there (has_district s k) (district_of s k.district)

  district_at : ℕ → DistrictKey
  district_at i = record { warehouse = i / 11; district = i % 11 }

  districts_are : (k : DistrictKey) → get (rows district_total exact_district district_row district_at 187)
      k ≡ district_row k
  unfolding district_row district_at
  districts_are = rows_are district_total exact_district district_row district_at 187 (λ k x e.
      let t = (in_range s sc (key.District k) (row.District x) (ap (option_map row.District) e)).0 in
      let warehouse_in = t.warehouse in
      let district_in = t.district in
      let warehouse_is : (k.warehouse * 11 + k.district) / 11 ≡ k.warehouse = omega arith in
      let district_is : (k.warehouse * 11 + k.district) % 11 ≡ k.district = omega arith in (
        k.warehouse * 11 + k.district,
        omega arith,
        λ i. record { warehouse = warehouse_is i; district = district_is i },
      ))

  customer_row : CustomerKey → Option Customer
  customer_row k = where_there (has_customer s k) (customer_of k.customer)

  customer_at : ℕ → CustomerKey
  customer_at i = record { warehouse = i / 3_001 / 11; district = i / 3_001 % 11; customer = i % 3_001 }

  customers_are : (k : CustomerKey) → get (rows customer_total exact_customer customer_row customer_at (187 * 3_001))
      k ≡ customer_row k
  unfolding customer_row customer_at
  customers_are = rows_are customer_total exact_customer customer_row customer_at (187 * 3_001) (λ k x e.
      let t = (in_range s sc (key.Customer k) (row.Customer x) (ap (option_map row.Customer) e)).0 in
      let warehouse_in = t.warehouse in
      let district_in = t.district in
      let customer_in = t.customer in
      let warehouse_is : ((k.warehouse * 11 + k.district) * 3_001 + k.customer) / 3_001 / 11 ≡ k.warehouse =
      omega arith in
      let district_is : ((k.warehouse * 11 + k.district) * 3_001 + k.customer) / 3_001 % 11 ≡ k.district =
      omega arith in
      let customer_is : ((k.warehouse * 11 + k.district) * 3_001 + k.customer) % 3_001 ≡ k.customer = omega arith in (
        (k.warehouse * 11 + k.district) * 3_001 + k.customer,
        omega arith,
        λ i. record { warehouse = warehouse_is i; district = district_is i; customer = customer_is i },
      ))

  history_row : HistoryKey → Option History
  history_row k = where_there (has_history s k) (history_of (counted_customer s k.number))

  history_at : ℕ → HistoryKey
  history_at i = record { terminal = 0; number = i; ordinal = 1 }

  histories_are : (k : HistoryKey) → get (rows history_total exact_history history_row history_at 4_294_967_296)
      k ≡ history_row k
  unfolding history_row history_at
  histories_are = rows_are history_total exact_history history_row history_at 4_294_967_296 (λ k x e.
      let t = (in_range s sc (key.History k) (row.History x) (ap (option_map row.History) e)).0 in
      let number_in = t.1 in
      let terminal_is : 0 ≡ k.terminal = sym t.0 in
      let number_is : k.number ≡ k.number = omega arith in
      let ordinal_is : 1 ≡ k.ordinal = sym t.2 in
      (k.number, omega arith, λ i. record { terminal = terminal_is i; number = number_is i; ordinal = ordinal_is i }))

  new_order_row : NewOrderKey → Option NewOrder
  new_order_row k = where_there (has_new_order s k) (record {})

  new_order_at : ℕ → NewOrderKey
  new_order_at i = record { warehouse = i / 10_000_001 / 11; district = i / 10_000_001 % 11; order = i % 10_000_001 }

  new_orders_are : (k : NewOrderKey)
      → get (rows new_order_total exact_new_order new_order_row new_order_at (187 * 10_000_001)) k ≡ new_order_row k
  unfolding new_order_row new_order_at
  new_orders_are = rows_are new_order_total exact_new_order new_order_row new_order_at (187 * 10_000_001) (λ k x e.
      let t = (in_range s sc (key.NewOrder k) (row.NewOrder x) (ap (option_map row.NewOrder) e)).0 in
      let warehouse_in = t.0.warehouse in
      let district_in = t.0.district in
      let order_in = t.1 in
      let warehouse_is : ((k.warehouse * 11 + k.district) * 10_000_001 + k.order) / 10_000_001 / 11 ≡ k.warehouse =
      omega arith in
      let district_is : ((k.warehouse * 11 + k.district) * 10_000_001 + k.order) / 10_000_001 % 11 ≡ k.district =
      omega arith in
      let order_is : ((k.warehouse * 11 + k.district) * 10_000_001 + k.order) % 10_000_001 ≡ k.order = omega arith in (
        (k.warehouse * 11 + k.district) * 10_000_001 + k.order,
        omega arith,
        λ i. record { warehouse = warehouse_is i; district = district_is i; order = order_is i },
      ))

  order_row : OrderKey → Option Order
  order_row k = where_there (has_order s k) (order_of s k.order)

  order_at : ℕ → OrderKey
  order_at i = record { warehouse = i / 10_000_001 / 11; district = i / 10_000_001 % 11; order = i % 10_000_001 }

  orders_are : (k : OrderKey) → get (rows order_total exact_order order_row order_at (187 * 10_000_001)) k ≡ order_row k
  unfolding order_row order_at
  orders_are = rows_are order_total exact_order order_row order_at (187 * 10_000_001) (λ k x e.
      let t = (in_range s sc (key.Order k) (row.Order x) (ap (option_map row.Order) e)).0 in
      let warehouse_in = t.0.warehouse in
      let district_in = t.0.district in
      let order_in = t.1 in
      let warehouse_is : ((k.warehouse * 11 + k.district) * 10_000_001 + k.order) / 10_000_001 / 11 ≡ k.warehouse =
      omega arith in
      let district_is : ((k.warehouse * 11 + k.district) * 10_000_001 + k.order) / 10_000_001 % 11 ≡ k.district =
      omega arith in
      let order_is : ((k.warehouse * 11 + k.district) * 10_000_001 + k.order) % 10_000_001 ≡ k.order = omega arith in (
        (k.warehouse * 11 + k.district) * 10_000_001 + k.order,
        omega arith,
        λ i. record { warehouse = warehouse_is i; district = district_is i; order = order_is i },
      ))

  order_line_row : OrderLineKey → Option OrderLine
  order_line_row k = where_there (has_line s k) (line_of s k)

  order_line_at : ℕ → OrderLineKey
  order_line_at i = record {
    warehouse = i / 16 / 10_000_001 / 11;
    district = i / 16 / 10_000_001 % 11;
    order = i / 16 % 10_000_001;
    number = i % 16;
  }

  order_lines_are : (k : OrderLineKey)
      → get (rows order_line_total exact_order_line order_line_row order_line_at (187 * 10_000_001 * 16))
      k ≡ order_line_row k
  unfolding order_line_row order_line_at
  order_lines_are = rows_are order_line_total exact_order_line order_line_row order_line_at (187 * 10_000_001 * 16)
      (λ k x e.
      let t = (in_range s sc (key.OrderLine k) (row.OrderLine x) (ap (option_map row.OrderLine) e)).0 in
      let warehouse_in = t.0.warehouse in
      let district_in = t.0.district in
      let order_in = t.1 in
      let number_in = t.2 in
      let warehouse_is : (((k.warehouse * 11 + k.district) * 10_000_001 + k.order) * 16 + k.number) / 16 / 10_000_001
      / 11 ≡ k.warehouse = omega arith in
      let district_is : (((k.warehouse * 11 + k.district) * 10_000_001 + k.order) * 16 + k.number) / 16 / 10_000_001 %
      11 ≡ k.district = omega arith in
      let order_is : (((k.warehouse * 11 + k.district) * 10_000_001 + k.order) * 16 + k.number) / 16 %
      10_000_001 ≡ k.order = omega arith in
      let number_is : (((k.warehouse * 11 + k.district) * 10_000_001 + k.order) * 16 + k.number) % 16 ≡ k.number =
      omega arith in (
        ((k.warehouse * 11 + k.district) * 10_000_001 + k.order) * 16 + k.number,
        omega arith,
        λ i. record {
          warehouse = warehouse_is i;
          district = district_is i;
          order = order_is i;
          number = number_is i;
        },
      ))

  item_row : ItemKey → Option Item
  item_row k = where_there (has_item s k) (item_of k.item)

  item_at : ℕ → ItemKey
  item_at i = record { item = i }

  items_are : (k : ItemKey) → get (rows item_total exact_item item_row item_at 100_001) k ≡ item_row k
  unfolding item_row item_at
  items_are = rows_are item_total exact_item item_row item_at 100_001 (λ k x e.
      let t = (in_range s sc (key.Item k) (row.Item x) (ap (option_map row.Item) e)).0 in
      let item_in = t in
      let item_is : k.item ≡ k.item = omega arith in
      (k.item, omega arith, λ i. record { item = item_is i }))

  stock_row : StockKey → Option Stock
  stock_row k = where_there (has_stock s k) (stock_of k.warehouse k.item)

  stock_at : ℕ → StockKey
  stock_at i = record { warehouse = i / 100_001; item = i % 100_001 }

  stocks_are : (k : StockKey) → get (rows stock_total exact_stock stock_row stock_at (17 * 100_001)) k ≡ stock_row k
  unfolding stock_row stock_at
  stocks_are = rows_are stock_total exact_stock stock_row stock_at (17 * 100_001) (λ k x e.
      let t = (in_range s sc (key.Stock k) (row.Stock x) (ap (option_map row.Stock) e)).0 in
      let warehouse_in = t.0 in
      let item_in = t.1 in
      let warehouse_is : (k.warehouse * 100_001 + k.item) / 100_001 ≡ k.warehouse = omega arith in
      let item_is : (k.warehouse * 100_001 + k.item) % 100_001 ≡ k.item = omega arith in
      (k.warehouse * 100_001 + k.item, omega arith, λ i. record { warehouse = warehouse_is i; item = item_is i }))

  tables : Rows
  tables = record {
    warehouses = rows warehouse_total exact_warehouse warehouse_row warehouse_at 17;
    districts = rows district_total exact_district district_row district_at 187;
    customers = rows customer_total exact_customer customer_row customer_at (187 * 3_001);
    histories = rows history_total exact_history history_row history_at 4_294_967_296;
    new_orders = rows new_order_total exact_new_order new_order_row new_order_at (187 * 10_000_001);
    orders = rows order_total exact_order order_row order_at (187 * 10_000_001);
    order_lines = rows order_line_total exact_order_line order_line_row order_line_at (187 * 10_000_001 * 16);
    items = rows item_total exact_item item_row item_at 100_001;
    stocks = rows stock_total exact_stock stock_row stock_at (17 * 100_001);
  }

  tables_are : IsPopulated s tables
  unfolding tables warehouse_row district_row customer_row history_row new_order_row order_row order_line_row item_row
      stock_row
  tables_are (key.Warehouse k) = ap (option_map row.Warehouse) (warehouses_are k)
  tables_are (key.District k) = ap (option_map row.District) (districts_are k)
  tables_are (key.Customer k) = ap (option_map row.Customer) (customers_are k)
  tables_are (key.History k) = ap (option_map row.History) (histories_are k)
  tables_are (key.NewOrder k) = ap (option_map row.NewOrder) (new_orders_are k)
  tables_are (key.Order k) = ap (option_map row.Order) (orders_are k)
  tables_are (key.OrderLine k) = ap (option_map row.OrderLine) (order_lines_are k)
  tables_are (key.Item k) = ap (option_map row.Item) (items_are k)
  tables_are (key.Stock k) = ap (option_map row.Stock) (stocks_are k)

pub population_exists : Population_exists
population_exists = record { tables = λ s sc. (tables s sc, tables_are s sc) }
