-- What the base of the tables keeps as rows are put.
use Rattle.std.proofs.Common.{◌≡◌, ◌⊎◌, inl, inr, Bool, true, false, cond, Option, Some, None}
use Rattle.std.proofs.Common.{Result, OnOk, OnErr, List, [], sym, ap, subst, ◌∙◌, refl}
use Rattle.std.specs.Prelude.{IsSome, is_some, option_map}
use Rattle.std.specs.Int.{IsInRange}
use Rattle.std.specs.Ordering.{eq_by_cmp}
use Rattle.std.specs.declared.cmp.Ordering.{Ordering}
use Rattle.std.specs.Cmp.{IsTotalOrder, eq_by_cmp_equiv}
use Rattle.std.specs.FinMap.{FinMap, IsAntisymmetric, get, insert, empty, get-empty, get-insert}
use Rattle.oe_table.specs.Table.{rows_of}
use Rattle.oe_table.proofs.TableFacts.{tied}
use Rattle.oe_rows.specs.Key.{warehouse_cmp, district_cmp, customer_cmp, history_cmp, new_order_cmp, order_cmp}
use Rattle.oe_rows.specs.Key.{order_line_cmp, item_cmp, stock_cmp}
use Rattle.oe_rows.proofs.KeyFacts.{customer_total, exact_customer, item_total, exact_item, stock_total, exact_stock}
use Rattle.oe_rows.specs.declared.keys.WarehouseKey.{WarehouseKey}
use Rattle.oe_rows.specs.declared.keys.DistrictKey.{DistrictKey}
use Rattle.oe_rows.specs.declared.keys.CustomerKey.{CustomerKey}
use Rattle.oe_rows.specs.declared.keys.ItemKey.{ItemKey}
use Rattle.oe_rows.specs.declared.keys.StockKey.{StockKey}
use Rattle.oe_rows.specs.declared.keys.HistoryKey.{HistoryKey}
use Rattle.oe_rows.specs.declared.keys.NewOrderKey.{NewOrderKey}
use Rattle.oe_rows.specs.declared.keys.OrderKey.{OrderKey}
use Rattle.oe_rows.specs.declared.keys.OrderLineKey.{OrderLineKey}
use Rattle.oe_rows.specs.declared.keys.Key.{Key}
use Rattle.oe_rows.specs.declared.keys.Key.TheVariants as key
use Rattle.oe_rows.specs.declared.rows.Row.{Row}
use Rattle.oe_rows.specs.declared.rows.Row.TheVariants as row
use Rattle.oe_rows.specs.declared.histories.History.{History}
use Rattle.oe_rows.specs.declared.orders.NewOrder.{NewOrder}
use Rattle.oe_rows.specs.declared.orders.Order.{Order}
use Rattle.oe_rows.specs.declared.orders.OrderLine.{OrderLine}
use Rattle.oe_rows.specs.declared.warehouses.Warehouse.{Warehouse}
use Rattle.oe_rows.specs.declared.districts.District.{District}
use Rattle.oe_rows.specs.declared.customers.Customer.{Customer}
use Rattle.oe_rows.specs.declared.items.Item.{Item}
use Rattle.oe_rows.specs.declared.items.Stock.{Stock}
use Rattle.oe_model.specs.Keys.{warehouse_of_district, district_of_customer, warehouse_of_stock, item_of_stock}
use Rattle.oe_model.specs.Rows.{row_at}
use Rattle.oe_model.proofs.PresenceFacts.{some-map}
use Rattle.oe_store.specs.Places.{Places, rows, IsNumbered, IsSound}
use Rattle.oe_store.proofs.SoundFacts.{by_result}
use Rattle.oe_file_loading.specs.Base.{BasePlaces, IsBase, base_rows}
use Rattle.oe_file_loading.specs.Homes.{AreHomes}

-- ---- one row more

module _ {K X : Type 0} {R : K → K → Ordering} (total : IsTotalOrder R) (exact : IsAntisymmetric R) where
  some_or : (b : Bool) (x : X) (o : Option X) → IsSome o → IsSome (cond b (Some x) o)
  some_or true x o h = refl
  some_or false x o h = h

  pub grown : (m : FinMap R X) (key : K) (x : X) (q : K) → IsSome (get m q) → IsSome (get (insert m key x) q)
  grown m key x q h = subst IsSome (sym (get-insert total m key x q)) (some_or (eq_by_cmp R q key) x (get m q) h)

  pub own_row : (m : FinMap R X) (key : K) (x : X) → IsSome (get (insert m key x) key)
  own_row m key x =
      subst IsSome (sym (get-insert total m key x key))
      (subst (λ b. IsSome (cond b (Some x) (get m key))) (sym ((eq_by_cmp_equiv total).refl key)) refl)

  own_or : (q key : K) (b : Bool) → eq_by_cmp R q key ≡ b → (x : X) (o : Option X) → IsSome (cond b (Some x) o)
      → (q ≡ key) ⊎ IsSome o
  own_or q key true e x o h = inl (exact q key (tied (R q key) e))
  own_or q key false e x o h = inr h

  pub only_row : (m : FinMap R X) (key : K) (x : X) (q : K) → IsSome (get (insert m key x) q)
      → (q ≡ key) ⊎ IsSome (get m q)
  only_row m key x q h =
      own_or q key (eq_by_cmp R q key) refl x (get m q) (subst IsSome (get-insert total m key x q) h)

module _ {K X : Type 0} {R : K → K → Ordering} (total : IsTotalOrder R) (exact : IsAntisymmetric R) where
  value_or : (q key : K) (b : Bool) → eq_by_cmp R q key ≡ b → (x y : X) (o : Option X) → cond b (Some x) o ≡ Some y
      → (o ≡ Some y) ⊎ ((q ≡ key) × (y ≡ x))
  value_or q key true e x y o h = inr (exact q key (tied (R q key) e), cc)
  value_or q key false e x y o h = inl h

  -- a row of the grown table was there before, or is the new one
  pub only_value : (m : FinMap R X) (key : K) (x : X) (q : K) (y : X) → get (insert m key x) q ≡ Some y
      → (get m q ≡ Some y) ⊎ ((q ≡ key) × (y ≡ x))
  only_value m key x q y h =
      value_or q key (eq_by_cmp R q key) refl x y (get m q) (sym (get-insert total m key x q) ∙ h)

-- ---- no row

pub no_row : {K : Type 0} (X : Type 0) (R : K → K → Ordering) {P : Type 0} (k : K) → IsSome (get
    (empty {X = X} {R = R}) k)
    → P
no_row X R k h = let no : is_some {T = X} None ≡ true = ap is_some (sym (get-empty R k)) ∙ h in
    absurd (let z : ⊥ = cc in z)

pub present : {X : Type 0} (o : Option X) (x : X) → o ≡ Some x → IsSome o
present o x e = ap is_some e

pub no_such : {K X : Type 0} {R : K → K → Ordering} {P : Type 0} (m : FinMap R X) (k : K) → m ≡ empty → IsSome
    (get m k) → P
no_such {X = X} {R = R} m k e h = no_row X R k (subst (λ m. IsSome (get m k)) e h)

-- ---- the base

pub base_start : (ws : List (WarehouseKey × Option Warehouse)) (ds : List (DistrictKey × Option District))
    (cs : List (CustomerKey × Option Customer)) (is : List (ItemKey × Option Item))
    (ss : List (StockKey × Option Stock))
    → AreHomes (rows_of warehouse_cmp ws) (rows_of district_cmp ds)
    → rows_of customer_cmp cs ≡ empty → rows_of stock_cmp ss ≡ empty
    → IsBase (record { warehouses = ws; districts = ds; customers = cs; items = is; stocks = ss })
base_start ws ds cs is ss homes e f = record {
  homes = homes;
  customers = λ k h. no_row Customer customer_cmp k (subst (λ m. IsSome (get m k)) e h);
  stocks = λ k h. no_row Stock stock_cmp k (subst (λ m. IsSome (get m k)) f h);
}

module _ {T E : Type 0} (r : Result T E) (s : BasePlaces) (base : IsBase s) where
  with_customers : (cs : List (CustomerKey × Option Customer)) (key : CustomerKey) (x : Customer)
      → IsSome (get (rows_of district_cmp s.districts) (district_of_customer key)) × IsInRange 1 3_000 key.customer
      → rows_of customer_cmp cs ≡ insert (rows_of customer_cmp s.customers) key x
      → IsBase (record s { customers = cs })
  with_customers cs key x own e = record {
    homes = base.homes;
    customers = λ k h. here k
        (only_row customer_total exact_customer (rows_of customer_cmp s.customers) key x k
        (subst (λ m. IsSome (get m k)) e h));
    stocks = base.stocks;
  }
    where
      here : (k : CustomerKey) → (k ≡ key) ⊎ IsSome (get (rows_of customer_cmp s.customers) k)
          → IsSome (get (rows_of district_cmp s.districts) (district_of_customer k)) × IsInRange 1 3_000 k.customer
      here k (inl is) =
          subst (λ k. IsSome (get (rows_of district_cmp s.districts) (district_of_customer k))
          × IsInRange 1 3_000 k.customer)
          (sym is) own
      here k (inr h) = base.customers k h

  pub base_customer : (cs : List (CustomerKey × Option Customer)) (key : CustomerKey) (x : Customer)
      → IsSome (get (rows_of district_cmp s.districts) (district_of_customer key)) → IsInRange 1 3_000 key.customer
      → OnOk r (rows_of customer_cmp cs ≡ insert (rows_of customer_cmp s.customers) key x)
      → OnErr r (cs ≡ s.customers) → IsBase (record s { customers = cs })
  base_customer cs key x own range = by_result r
      (λ e. with_customers cs key x (own, range) e)
      (λ e. subst (λ cs. IsBase (record s { customers = cs })) (sym e) base)

  with_items : (is : List (ItemKey × Option Item)) (key : ItemKey) (x : Item)
      → rows_of item_cmp is ≡ insert (rows_of item_cmp s.items) key x → IsBase (record s { items = is })
  with_items is key x e = record {
    homes = base.homes;
    customers = base.customers;
    stocks = λ k h. let old = base.stocks k h in (
      old.0,
      subst (λ m. IsSome (get m (item_of_stock k))) (sym e)
          (grown item_total exact_item (rows_of item_cmp s.items) key x (item_of_stock k) old.1),
    );
  }

  pub base_item : (is : List (ItemKey × Option Item)) (key : ItemKey) (x : Item)
      → OnOk r (rows_of item_cmp is ≡ insert (rows_of item_cmp s.items) key x) → OnErr r (is ≡ s.items)
      → IsBase (record s { items = is })
  base_item is key x = by_result r (λ e. with_items is key x e)
      (λ e. subst (λ is. IsBase (record s { items = is })) (sym e) base)

  with_stocks : (ss : List (StockKey × Option Stock)) (key : StockKey) (x : Stock)
      → IsSome (get (rows_of warehouse_cmp s.warehouses) (warehouse_of_stock key))
      × IsSome (get (rows_of item_cmp s.items) (item_of_stock key))
      → rows_of stock_cmp ss ≡ insert (rows_of stock_cmp s.stocks) key x → IsBase (record s { stocks = ss })
  with_stocks ss key x own e = record {
    homes = base.homes;
    customers = base.customers;
    stocks = λ k h. here k
        (only_row stock_total exact_stock (rows_of stock_cmp s.stocks) key x k (subst (λ m. IsSome (get m k)) e h));
  }
    where
      here : (k : StockKey) → (k ≡ key) ⊎ IsSome (get (rows_of stock_cmp s.stocks) k)
          → IsSome (get (rows_of warehouse_cmp s.warehouses) (warehouse_of_stock k))
          × IsSome (get (rows_of item_cmp s.items) (item_of_stock k))
      here k (inl is) =
          subst
          (λ k. IsSome (get (rows_of warehouse_cmp s.warehouses) (warehouse_of_stock k))
          × IsSome (get (rows_of item_cmp s.items) (item_of_stock k))) (sym is) own
      here k (inr h) = base.stocks k h

  pub base_stock : (ss : List (StockKey × Option Stock)) (key : StockKey) (x : Stock)
      → IsSome (get (rows_of warehouse_cmp s.warehouses) (warehouse_of_stock key))
      → IsSome (get (rows_of item_cmp s.items) (item_of_stock key))
      → OnOk r (rows_of stock_cmp ss ≡ insert (rows_of stock_cmp s.stocks) key x) → OnErr r (ss ≡ s.stocks)
      → IsBase (record s { stocks = ss })
  base_stock ss key x house item = by_result r (λ e. with_stocks ss key x (house, item) e)
      (λ e. subst (λ ss. IsBase (record s { stocks = ss })) (sym e) base)

-- ---- the nine tables of a base

module _ (s : BasePlaces) (hs : List (HistoryKey × Option History)) (ns : List (NewOrderKey × Option NewOrder))
    (os : List (OrderKey × Option Order)) (ls : List (OrderLineKey × Option OrderLine)) (base : IsBase s)
    (no_histories : rows_of history_cmp hs ≡ empty) (no_new_orders : rows_of new_order_cmp ns ≡ empty)
    (no_orders : rows_of order_cmp os ≡ empty) (no_lines : rows_of order_line_cmp ls ≡ empty) where
  abbrev nine : Places
  nine = record {
    warehouses = s.warehouses;
    districts = s.districts;
    customers = s.customers;
    histories = hs;
    new_orders = ns;
    orders = os;
    order_lines = ls;
    items = s.items;
    stocks = s.stocks;
    names = record { lists = []; is_listed = false };
  }

  numbered : (k : Key) → IsSome (row_at (rows nine) k) → IsNumbered k
  numbered (key.Warehouse k) h = tt
  numbered (key.District k) h =
      (base.homes.home k (sym (some-map row.District (get (rows_of district_cmp s.districts) k)) ∙ h)).1
  numbered (key.Customer k) h =
      (base.customers k (sym (some-map row.Customer (get (rows_of customer_cmp s.customers) k)) ∙ h)).1
  numbered (key.History k) h = tt
  numbered (key.NewOrder k) h =
      no_such (rows_of new_order_cmp ns) k no_new_orders
      (sym (some-map row.NewOrder (get (rows_of new_order_cmp ns) k)) ∙ h)
  numbered (key.Order k) h =
      no_such (rows_of order_cmp os) k no_orders (sym (some-map row.Order (get (rows_of order_cmp os) k)) ∙ h)
  numbered (key.OrderLine k) h =
      no_such (rows_of order_line_cmp ls) k no_lines
      (sym (some-map row.OrderLine (get (rows_of order_line_cmp ls) k)) ∙ h)
  numbered (key.Item k) h = tt
  numbered (key.Stock k) h = tt

  pub base_is : rows nine ≡ base_rows s
  base_is = λ i. record {
    warehouses = rows_of warehouse_cmp s.warehouses;
    districts = rows_of district_cmp s.districts;
    customers = rows_of customer_cmp s.customers;
    histories = no_histories i;
    new_orders = no_new_orders i;
    orders = no_orders i;
    order_lines = no_lines i;
    items = rows_of item_cmp s.items;
    stocks = rows_of stock_cmp s.stocks;
  }

  pub base_sound : IsSound (rows nine)
  base_sound = record {
    schema = record {
      districts = λ k x e. (base.homes.home k (present _ x e)).0;
      customers = λ k x e. (base.customers k (present _ x e)).0;
      histories = λ k x e. no_such (rows_of history_cmp hs) k no_histories (present _ x e);
      new_orders = λ k x e. no_such (rows_of new_order_cmp ns) k no_new_orders (present _ x e);
      orders = λ k x e. no_such (rows_of order_cmp os) k no_orders (present _ x e);
      order_lines = λ k x e. no_such (rows_of order_line_cmp ls) k no_lines (present _ x e);
      stocks = λ k x e. base.stocks k (present _ x e);
      ten_districts = λ k h low high. base.homes.ten (warehouse_of_district k) h k refl low high;
    };
    numbered = numbered;
  }

pub homes_start : (ws : FinMap warehouse_cmp Warehouse) (ds : FinMap district_cmp District) → ws ≡ empty → ds ≡ empty
    → AreHomes ws ds
homes_start ws ds e f = record {
  ten = λ w h. no_such ws w e h;
  home = λ k h. no_such ds k f h;
}

-- a key has no row where its table has none
pub none_at : {K X : Type 0} {R : K → K → Ordering} (c : X → Row) (m : FinMap R X) → m ≡ empty → (k : K)
    → IsSome (option_map c (get m k)) → ⊥
none_at c m e k h = no_such m k e (sym (some-map c (get m k)) ∙ h)
