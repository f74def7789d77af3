-- Tables that are loaded one after another.
use Rattle.std.proofs.Common.{◌≡◌, ℕ, zero, suc, ◌<◌, List, [], ◌∷◌, ap, sym, subst, refl, arith}
use Rattle.std.specs.Prelude.{Option}
use Rattle.oe_io.specs.Ports.{Source}
use Rattle.oe_rows.proofs.KeyFacts.{customer_total, history_total, new_order_total, order_total, order_line_total}
use Rattle.oe_rows.proofs.KeyFacts.{item_total, stock_total}
use Rattle.oe_rows.specs.declared.keys.Key.{Key}
use Rattle.oe_rows.specs.declared.keys.Key.TheVariants as key
use Rattle.oe_rows.specs.declared.keys.CustomerKey.{CustomerKey}
use Rattle.oe_rows.specs.declared.keys.ItemKey.{ItemKey}
use Rattle.oe_rows.specs.declared.keys.NewOrderKey.{NewOrderKey}
use Rattle.oe_rows.specs.declared.keys.OrderKey.{OrderKey}
use Rattle.oe_rows.specs.declared.keys.OrderLineKey.{OrderLineKey}
use Rattle.oe_rows.specs.declared.customers.Customer.{Customer}
use Rattle.oe_rows.specs.declared.items.Item.{Item}
use Rattle.oe_rows.specs.declared.orders.NewOrder.{NewOrder}
use Rattle.oe_rows.specs.declared.orders.Order.{Order}
use Rattle.oe_rows.specs.declared.orders.OrderLine.{OrderLine}
use Rattle.oe_model.specs.Changes.{rows_after, InsertNewOrder, InsertOrder, InsertOrderLine}
use Rattle.oe_model.specs.Keys.{district_of_customer, order_of_new_order, customer_of_order, order_of_line}
use Rattle.oe_model.specs.Keys.{supply_of_line}
use Rattle.std.specs.FinMap.{insert}
use Rattle.oe_model.specs.Rows.{Rows}
use Rattle.oe_store.specs.Places.{rows}
use Rattle.oe_file_tables.specs.declared.faults.TableFault.{TableFault}
use Rattle.oe_file_tables.specs.declared.formats.Format.{Format}
use Rattle.oe_file_tables.specs.declared.lines.Numbered.{Numbered}
use Rattle.oe_file_tables.specs.Fault.{Told, no_faults}
use Rattle.oe_file_tables.proofs.ReadFacts.{table_read_as}
use Rattle.oe_file_loading.specs.declared.counts.RowCounts.{RowCounts}
use Rattle.oe_file_loading.specs.declared.loading.Apart as apart
use Rattle.oe_file_loading.specs.declared.loading.Begun as begun
use Rattle.oe_file_loading.specs.declared.loading.DeedCounts as counts
use Rattle.oe_file_loading.specs.Loading.{Nine, KeepsBase, KeepsDeeds}
use Rattle.oe_file_loading.specs.Loaded.{PutsCustomers, PutsItems, PutsStocks, PutsOrders, PutsLines, PutsNewOrders}
use Rattle.oe_file_loading.specs.Loaded.{PutsHistories, WarehousesRead, DistrictsRead, CustomersRead, ItemsRead}
use Rattle.oe_file_loading.specs.Loaded.{StocksRead}
use Rattle.oe_file_loading.specs.Loaded.{OrdersRead, OrderLinesRead, NewOrdersRead, HistoriesRead, TableLoaded}
use Rattle.oe_file_loading.specs.Loaded.{HomesLoaded}
use Rattle.oe_file_loading.specs.Loaded.{BasePut, BaseLoaded, DeedsLoaded, FilesLoaded, FilesTold, AreFaults, AreLoaded}
use Rattle.oe_file_loading.specs.Placing.{Puts}
use Rattle.oe_file_loading.proofs.FileFacts.{files_read}
use Rattle.oe_file_loading.proofs.PlaceFacts.{put_keeps}

-- what no row of a table changes stays as the table is loaded
pub table_keeps : {K X Z : Type 0}
    {reads : Option Source → Option Source → Told TableFault → Told TableFault → List (Numbered K X) → Type 0}
    (key_of : K → Key) (refers : K → X → List Key) (with : K → X → Rows → Rows) (f : Rows → Z)
    → ((k : K) (x : X) (r : Rows) → f (with k x r) ≡ f r)
    → (old new : Option Source) (start told : Told TableFault) (r s : Rows) (a b : List apart.Apart) (count : ℕ)
    → TableLoaded reads (Puts key_of refers with) old new start told r s a b count → f s ≡ f r
table_keeps {K} {X} {Z} key_of refers with f still old new start told r s a b count l = by told.count refl
  where
    by : (n : ℕ) → told.count ≡ n → f s ≡ f r
    by zero e = let puts = l.put e in put_keeps key_of refers with f still l.lot r s puts.0 puts.1
    by (suc n) e = ap f (l.left (omega (arith, e))).0

pub customers_keep : {Z : Type 0} {format : Format} (f : Rows → Z) → ((k : CustomerKey) (x : Customer) (r : Rows)
    → f (record r { customers = insert r.customers k x }) ≡ f r)
    → (old new : Option Source) (start told : Told TableFault) (r s : Rows) (a b : List apart.Apart) (count : ℕ)
    → TableLoaded (CustomersRead format) PutsCustomers old new start told r s a b count → f s ≡ f r
customers_keep f still old new start told r s a b count l =
    table_keeps (λ k. key.Customer k) (λ k x. key.District (district_of_customer k) ∷ [])
    (λ k x r. record r { customers = insert r.customers k x }) f still old new start told r s a b count l

pub items_keep : {Z : Type 0} {format : Format} (f : Rows → Z) → ((k : ItemKey) (x : Item) (r : Rows) → f
    (record r { items = insert r.items k x }) ≡ f r)
    → (old new : Option Source) (start told : Told TableFault) (r s : Rows) (a b : List apart.Apart) (count : ℕ)
    → TableLoaded (ItemsRead format) PutsItems old new start told r s a b count → f s ≡ f r
items_keep f still old new start told r s a b count l =
    table_keeps (λ k. key.Item k) (λ k x. [])
    (λ k x r. record r { items = insert r.items k x }) f still old new start told r s a b count l

pub orders_keep : {Z : Type 0} {format : Format} (f : Rows → Z) → ((k : OrderKey) (x : Order) (r : Rows) → f
    (rows_after (InsertOrder k x) r) ≡ f r)
    → (old new : Option Source) (start told : Told TableFault) (r s : Rows) (a b : List apart.Apart) (count : ℕ)
    → TableLoaded (OrdersRead format) PutsOrders old new start told r s a b count → f s ≡ f r
orders_keep f still old new start told r s a b count l =
    table_keeps (λ k. key.Order k) (λ k x. key.Customer (customer_of_order k x) ∷ []) (λ k x r. rows_after
    (InsertOrder k x) r) f still old new start told r s a b count l

pub lines_keep : {Z : Type 0} {format : Format} (f : Rows → Z)
    → ((k : OrderLineKey) (x : OrderLine) (r : Rows) → f (rows_after (InsertOrderLine k x) r) ≡ f r)
    → (old new : Option Source) (start told : Told TableFault) (r s : Rows) (a b : List apart.Apart) (count : ℕ)
    → TableLoaded (OrderLinesRead format) PutsLines old new start told r s a b count → f s ≡ f r
lines_keep f still old new start told r s a b count l =
    table_keeps (λ k. key.OrderLine k) (λ k x. key.Order (order_of_line k) ∷ key.Stock (supply_of_line x) ∷ [])
    (λ k x r. rows_after (InsertOrderLine k x) r) f still old new start told r s a b count l

pub new_orders_keep : {Z : Type 0} {format : Format} (f : Rows → Z) → ((k : NewOrderKey) (x : NewOrder)
    (r : Rows) → f (rows_after (InsertNewOrder k x) r) ≡ f r)
    → (old new : Option Source) (start told : Told TableFault) (r s : Rows) (a b : List apart.Apart) (count : ℕ)
    → TableLoaded (NewOrdersRead format) PutsNewOrders old new start told r s a b count → f s ≡ f r
new_orders_keep f still old new start told r s a b count l =
    table_keeps (λ k. key.NewOrder k) (λ k x. key.Order (order_of_new_order k) ∷ []) (λ k x r. rows_after
    (InsertNewOrder k x) r) f still old new start told r s a b count l

pub base_loaded : (format : Format) (old new : Nine) (start told_1 told_2 told_3 told : Told TableFault)
    (homes r s t end : Rows) (z a b c d : List apart.Apart) (n : begun.Begun)
    → HomesLoaded format old.warehouse new.warehouse old.district new.district start told_1 homes z a n.warehouses
    n.districts
    → TableLoaded (CustomersRead format) PutsCustomers old.customer new.customer told_1 told_2 homes r a b n.customers
    → TableLoaded (ItemsRead format) PutsItems old.item new.item told_2 told_3 r s b c n.items
    → TableLoaded (StocksRead format) PutsStocks old.stock new.stock told_3 told s t c d n.stocks
    → end ≡ t → BaseLoaded format old new start told end z d n
base_loaded format old new start told_1 told_2 told_3 told homes r s t end z a b c d n h k i o e = record {
  warehouses = h.warehouses;
  districts = h.districts;
  customers = k.lot;
  items = i.lot;
  stocks = o.lot;
  told_warehouses = h.middle;
  told_districts = told_1;
  told_customers = told_2;
  told_items = told_3;
  read_warehouses = h.read_warehouses;
  read_districts = h.read_districts;
  read_customers = k.read;
  read_items = i.read;
  read_stocks = o.read;
  put = λ none.
      let none_3 = (table_read_as _ _ stock_total _ _ _ _ _ _ _ _ o.read none).1 in
      let none_2 = (table_read_as _ _ item_total _ _ _ _ _ _ _ _ i.read none_3).1 in
      let none_1 = (table_read_as _ _ customer_total _ _ _ _ _ _ _ _ k.read none_2).1 in
      record {
        homes = homes;
        with_customers = r;
        with_items = s;
        parted_homes = a;
        parted_customers = b;
        parted_items = c;
        homes_put = h.put none_1;
        customers = k.put none_2;
        items = i.put none_3;
        stocks = subst (λ (end : Rows). PutsStocks o.lot s end c d) (sym e) (o.put none);
      };
  counted = (h.counted.0, h.counted.1, k.counted, i.counted, o.counted);
}

pub deeds_loaded : (format : Format) (old new : Nine) (start told_1 told_2 told_3 told : Told TableFault)
    (q r s t end : Rows) (a b c d e : List apart.Apart) (n : counts.DeedCounts)
    → TableLoaded (OrdersRead format) PutsOrders old.order new.order start told_1 q r a b n.orders
    → TableLoaded (OrderLinesRead format) PutsLines old.order_line new.order_line told_1 told_2 r s b c n.order_lines
    → TableLoaded (NewOrdersRead format) PutsNewOrders old.new_order new.new_order told_2 told_3 s t c d n.new_orders
    → TableLoaded (HistoriesRead format) PutsHistories old.history new.history told_3 told t end d e n.histories
    → DeedsLoaded format old new start told q end a e n
deeds_loaded format old new start told_1 told_2 told_3 told q r s t end a b c d e n o l k h = record {
  orders = o.lot;
  order_lines = l.lot;
  new_orders = k.lot;
  histories = h.lot;
  told_orders = told_1;
  told_order_lines = told_2;
  told_new_orders = told_3;
  read_orders = o.read;
  read_order_lines = l.read;
  read_new_orders = k.read;
  read_histories = h.read;
  put = λ none.
      let none_3 = (table_read_as _ _ history_total _ _ _ _ _ _ _ _ h.read none).1 in
      let none_2 = (table_read_as _ _ new_order_total _ _ _ _ _ _ _ _ k.read none_3).1 in
      let none_1 = (table_read_as _ _ order_line_total _ _ _ _ _ _ _ _ l.read none_2).1 in
      record {
        with_orders = r;
        with_lines = s;
        with_new_orders = t;
        parted_orders = b;
        parted_lines = c;
        parted_new_orders = d;
        orders = o.put none_1;
        lines = l.put none_2;
        new_orders = k.put none_3;
        histories = h.put none;
      };
  counted = (o.counted, l.counted, k.counted, h.counted);
}

-- the counts of all files
abbrev pub all_counts : begun.Begun → counts.DeedCounts → RowCounts
all_counts n m = record {
  warehouses = n.warehouses;
  districts = n.districts;
  customers = n.customers;
  histories = m.histories;
  new_orders = m.new_orders;
  orders = m.orders;
  order_lines = m.order_lines;
  items = n.items;
  stocks = n.stocks;
}

pub files_loaded : (format : Format) (old mid new : Nine) (start middle told : Told TableFault) (end : Rows)
    (z a b : List apart.Apart) (n : begun.Begun) (m : counts.DeedCounts) → z ≡ [] → KeepsDeeds old mid
    → KeepsBase mid new → BaseLoaded format old mid start middle (rows n.tables) z a n
    → DeedsLoaded format mid new middle told (rows n.tables) end a b m
    → FilesLoaded format old new start told end b (all_counts n m)
files_loaded format old mid new start middle told end z a b n m none_apart deeds base f g = record {
  files = record {
    warehouses = f.warehouses;
    districts = f.districts;
    customers = f.customers;
    histories = g.histories;
    new_orders = g.new_orders;
    orders = g.orders;
    order_lines = g.order_lines;
    items = f.items;
    stocks = f.stocks;
  };
  read = record {
    told_warehouses = f.told_warehouses;
    told_districts = f.told_districts;
    told_customers = f.told_customers;
    told_items = f.told_items;
    told_stocks = middle;
    told_orders = g.told_orders;
    told_order_lines = g.told_order_lines;
    told_new_orders = g.told_new_orders;
    warehouses =
        subst (λ (s : Option Source). WarehousesRead format old.warehouse s start f.told_warehouses f.warehouses)
        (sym base.warehouses) f.read_warehouses;
    districts =
        subst (λ (s : Option Source). DistrictsRead format old.district s f.told_warehouses f.told_districts
        f.districts)
        (sym base.districts) f.read_districts;
    customers =
        subst (λ (s : Option Source). CustomersRead format old.customer s f.told_districts f.told_customers f.customers)
        (sym base.customers) f.read_customers;
    items =
        subst (λ (s : Option Source). ItemsRead format old.item s f.told_customers f.told_items f.items)
        (sym base.items)
        f.read_items;
    stocks =
        subst (λ (s : Option Source). StocksRead format old.stock s f.told_items middle f.stocks) (sym base.stocks)
        f.read_stocks;
    orders =
        subst (λ (s : Option Source). OrdersRead format s new.order middle g.told_orders g.orders) deeds.orders
        g.read_orders;
    order_lines =
        subst
        (λ (s : Option Source). OrderLinesRead format s new.order_line g.told_orders g.told_order_lines g.order_lines)
        deeds.order_lines g.read_order_lines;
    new_orders =
        subst
        (λ (s : Option Source). NewOrdersRead format s new.new_order g.told_order_lines g.told_new_orders g.new_orders)
        deeds.new_orders g.read_new_orders;
    histories =
        subst (λ (s : Option Source). HistoriesRead format s new.history g.told_new_orders told g.histories)
        deeds.histories
        g.read_histories;
  };
  put = λ none.
      let none_3 = (table_read_as _ _ history_total _ _ _ _ _ _ _ _ g.read_histories none).1 in
      let none_2 = (table_read_as _ _ new_order_total _ _ _ _ _ _ _ _ g.read_new_orders none_3).1 in
      let none_1 = (table_read_as _ _ order_line_total _ _ _ _ _ _ _ _ g.read_order_lines none_2).1 in
      let none_0 = (table_read_as _ _ order_total _ _ _ _ _ _ _ _ g.read_orders none_1).1 in
      record {
        middle = rows n.tables;
        parted_middle = a;
        base =
            subst (λ z. BasePut f.warehouses f.districts f.customers f.items f.stocks (rows n.tables) z a) none_apart
            (f.put none_0);
        deeds = g.put none;
      };
  counted = λ i. record {
    warehouses = f.counted.0 i;
    districts = f.counted.1 i;
    customers = f.counted.2 i;
    histories = g.counted.3 i;
    new_orders = g.counted.2 i;
    orders = g.counted.0 i;
    order_lines = g.counted.1 i;
    items = f.counted.3 i;
    stocks = f.counted.4 i;
  };
}

-- ---- what is answered

module _ (format : Format) (old new : Nine) (start told : Told TableFault) (end : Rows) (parted : List apart.Apart)
    (counts : RowCounts) (l : FilesLoaded format old new start told end parted counts) where
  pub are_faults : start ≡ no_faults → 0 < told.count → AreFaults format old new told
  are_faults none some = record {
    files = l.files;
    read = subst (λ (t : Told TableFault). FilesTold format old new l.files t told) none l.read;
    some = some;
  }

  pub are_loaded : told.count ≡ 0 → AreLoaded format old new end parted counts
  are_loaded none = record {
    files = l.files;
    read = files_read format old new l.files start told l.read none;
    put = l.put none;
    counted = l.counted;
  }
