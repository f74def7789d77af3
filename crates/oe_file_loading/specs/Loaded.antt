-- What is loaded: the rows of nine files, put table after table.
use Rattle.std.specs.Prelude.{◌≡◌, ◌<◌, ℕ, List, [], ◌∷◌, length, Option}
use Rattle.oe_io.specs.Ports.{Source}
use Rattle.oe_rows.specs.Key.{warehouse_cmp, district_cmp, customer_cmp, history_cmp, new_order_cmp, order_cmp}
use Rattle.oe_rows.specs.Key.{order_line_cmp, item_cmp, stock_cmp}
use Rattle.std.specs.FinMap.{FinMap, insert}
use Rattle.oe_rows.specs.declared.keys.CustomerKey.{CustomerKey}
use Rattle.oe_rows.specs.declared.keys.HistoryKey.{HistoryKey}
use Rattle.oe_rows.specs.declared.keys.ItemKey.{ItemKey}
use Rattle.oe_rows.specs.declared.keys.NewOrderKey.{NewOrderKey}
use Rattle.oe_rows.specs.declared.keys.OrderKey.{OrderKey}
use Rattle.oe_rows.specs.declared.keys.OrderLineKey.{OrderLineKey}
use Rattle.oe_rows.specs.declared.keys.StockKey.{StockKey}
use Rattle.oe_rows.specs.declared.keys.Key.TheVariants as key
use Rattle.oe_rows.specs.declared.keys.Table.TheVariants as table
use Rattle.oe_rows.specs.declared.customers.Customer.{Customer}
use Rattle.oe_rows.specs.declared.histories.History.{History}
use Rattle.oe_rows.specs.declared.items.Item.{Item}
use Rattle.oe_rows.specs.declared.items.Stock.{Stock}
use Rattle.oe_rows.specs.declared.orders.NewOrder.{NewOrder}
use Rattle.oe_rows.specs.declared.orders.Order.{Order}
use Rattle.oe_rows.specs.declared.orders.OrderLine.{OrderLine}
use Rattle.oe_file_rows.specs.Rows.{warehouse_forms, warehouse_values, district_forms, district_values, customer_forms}
use Rattle.oe_file_rows.specs.Rows.{customer_values, new_order_forms, new_order_values, order_forms, order_values}
use Rattle.oe_file_rows.specs.Rows.{order_line_forms, order_line_values, item_forms, item_values, stock_forms}
use Rattle.oe_file_rows.specs.Rows.{stock_values}
use Rattle.oe_model.specs.Keys.{warehouse_of_district, district_of_customer, order_of_new_order, customer_of_order}
use Rattle.oe_model.specs.Keys.{order_of_line, supply_of_line, warehouse_of_stock, item_of_stock}
use Rattle.oe_model.specs.Rows.{Rows}
use Rattle.oe_model.specs.Changes.{rows_after, InsertHistory, InsertNewOrder, InsertOrder, InsertOrderLine}
use Rattle.oe_file_tables.specs.declared.faults.TableFault.{TableFault}
use Rattle.oe_file_tables.specs.declared.lines.Numbered.{Numbered}
use Rattle.oe_file_loading.specs.declared.loading.Apart as apart
use Rattle.oe_file_loading.specs.declared.loading.Begun as begun
use Rattle.oe_file_loading.specs.declared.loading.DeedCounts as counts
use Rattle.oe_file_loading.specs.declared.loading.Loaded as loaded
use Rattle.oe_file_loading.specs.declared.loading.LoadError.{LoadError}
use Rattle.oe_file_loading.specs.declared.loading.LoadError.TheVariants as error
use Rattle.oe_file_loading.specs.declared.counts.RowCounts.{RowCounts}
use Rattle.oe_store.specs.Places.{rows, no_rows}
use Rattle.oe_file_tables.specs.Fault.{Told, no_faults}
use Rattle.oe_file_tables.specs.Rows.{SpellsRow, SpellsHistory}
use Rattle.oe_file_loading.specs.Placing.{Puts}
use Rattle.oe_file_loading.specs.Homes.{AreDistricts, districts_from}
use Rattle.oe_rows.specs.declared.keys.WarehouseKey.{WarehouseKey}
use Rattle.oe_rows.specs.declared.keys.DistrictKey.{DistrictKey}
use Rattle.oe_rows.specs.declared.warehouses.Warehouse.{Warehouse}
use Rattle.oe_rows.specs.declared.districts.District.{District}
use Rattle.oe_file_loading.specs.Loading.{Nine}
use Rattle.oe_file_tables.specs.declared.formats.Format.{Format}
use Rattle.oe_file_tables.specs.Tables.{ReadWellAs, TableReadAs}

-- How a table's rows are put: which rows each refers to, and where it is put.
abbrev pub PutsWarehouses : List (Numbered WarehouseKey Warehouse) → Rows → Rows → List apart.Apart → List apart.Apart
    → Type 0
PutsWarehouses =
    Puts (λ k. key.Warehouse k) (λ k x. districts_from k 1 10)
    (λ k x r. record r { warehouses = insert r.warehouses k x })

abbrev pub PutsDistricts : List (Numbered DistrictKey District) → Rows → Rows → List apart.Apart → List apart.Apart
    → Type 0
PutsDistricts =
    Puts (λ k. key.District k) (λ k x. key.Warehouse (warehouse_of_district k) ∷ [])
    (λ k x r. record r { districts = insert r.districts k x })

abbrev pub PutsCustomers : List (Numbered CustomerKey Customer) → Rows → Rows → List apart.Apart → List apart.Apart
    → Type 0
PutsCustomers =
    Puts (λ k. key.Customer k) (λ k x. key.District (district_of_customer k) ∷ [])
    (λ k x r. record r { customers = insert r.customers k x })

abbrev pub PutsItems : List (Numbered ItemKey Item) → Rows → Rows → List apart.Apart → List apart.Apart → Type 0
PutsItems = Puts (λ k. key.Item k) (λ k x. []) (λ k x r. record r { items = insert r.items k x })

abbrev pub PutsStocks : List (Numbered StockKey Stock) → Rows → Rows → List apart.Apart → List apart.Apart → Type 0
PutsStocks =
    Puts (λ k. key.Stock k) (λ k x. key.Warehouse (warehouse_of_stock k) ∷ key.Item (item_of_stock k) ∷ [])
    (λ k x r. record r { stocks = insert r.stocks k x })

abbrev pub PutsOrders : List (Numbered OrderKey Order) → Rows → Rows → List apart.Apart → List apart.Apart → Type 0
PutsOrders =
    Puts (λ k. key.Order k) (λ k x. key.Customer (customer_of_order k x) ∷ []) (λ k x r. rows_after (InsertOrder k x) r)

abbrev pub PutsLines : List (Numbered OrderLineKey OrderLine) → Rows → Rows → List apart.Apart → List apart.Apart
    → Type 0
PutsLines =
    Puts (λ k. key.OrderLine k) (λ k x. key.Order (order_of_line k) ∷ key.Stock (supply_of_line x) ∷ [])
    (λ k x r. rows_after (InsertOrderLine k x) r)

abbrev pub PutsNewOrders : List (Numbered NewOrderKey NewOrder) → Rows → Rows → List apart.Apart → List apart.Apart
    → Type 0
PutsNewOrders =
    Puts (λ k. key.NewOrder k) (λ k x. key.Order (order_of_new_order k) ∷ [])
    (λ k x r. rows_after (InsertNewOrder k x) r)

abbrev pub PutsHistories : List (Numbered HistoryKey History) → Rows → Rows → List apart.Apart → List apart.Apart
    → Type 0
PutsHistories =
    Puts (λ k. key.History k) (λ k x. key.Customer x.customer ∷ key.District x.district ∷ [])
    (λ k x r. rows_after (InsertHistory k x) r)

-- Warehouses were put where their ten districts stand in the file, and districts where their warehouse was put.
pub record HomesPut (ws : List (Numbered WarehouseKey Warehouse)) (ds : List (Numbered DistrictKey District))
    (end : Rows) (parted_start parted : List apart.Apart) : Type 0 where
  pub all : FinMap district_cmp District
  pub are_all : AreDistricts ds all
  pub with_warehouses : Rows
  pub parted_warehouses : List apart.Apart
  pub warehouses : PutsWarehouses ws (record no_rows { districts = all }) with_warehouses parted_start parted_warehouses
  pub districts : PutsDistricts ds (record no_rows { warehouses = with_warehouses.warehouses }) end parted_warehouses
      parted

-- warehouses and districts were put, and customers, items and stocks behind them
pub record BasePut (ws : List (Numbered WarehouseKey Warehouse)) (ds : List (Numbered DistrictKey District))
    (cs : List (Numbered CustomerKey Customer)) (is : List (Numbered ItemKey Item))
    (ss : List (Numbered StockKey Stock)) (end : Rows) (parted_start parted : List apart.Apart) : Type 0 where
  pub homes : Rows
  pub with_customers : Rows
  pub with_items : Rows
  pub parted_homes : List apart.Apart
  pub parted_customers : List apart.Apart
  pub parted_items : List apart.Apart
  pub homes_put : HomesPut ws ds homes parted_start parted_homes
  pub customers : PutsCustomers cs homes with_customers parted_homes parted_customers
  pub items : PutsItems is with_customers with_items parted_customers parted_items
  pub stocks : PutsStocks ss with_items end parted_items parted

-- orders, their lines, orders not yet delivered and histories were put behind them
pub record DeedsPut (os : List (Numbered OrderKey Order)) (ls : List (Numbered OrderLineKey OrderLine))
    (ns : List (Numbered NewOrderKey NewOrder)) (hs : List (Numbered HistoryKey History)) (start end : Rows)
    (parted_start parted : List apart.Apart) : Type 0 where
  pub with_orders : Rows
  pub with_lines : Rows
  pub with_new_orders : Rows
  pub parted_orders : List apart.Apart
  pub parted_lines : List apart.Apart
  pub parted_new_orders : List apart.Apart
  pub orders : PutsOrders os start with_orders parted_start parted_orders
  pub lines : PutsLines ls with_orders with_lines parted_orders parted_lines
  pub new_orders : PutsNewOrders ns with_lines with_new_orders parted_lines parted_new_orders
  pub histories : PutsHistories hs with_new_orders end parted_new_orders parted

-- the rows of nine files, those of each in the order of their keys
pub record NineRows : Type 0 where
  pub warehouses : List (Numbered WarehouseKey Warehouse)
  pub districts : List (Numbered DistrictKey District)
  pub customers : List (Numbered CustomerKey Customer)
  pub histories : List (Numbered HistoryKey History)
  pub new_orders : List (Numbered NewOrderKey NewOrder)
  pub orders : List (Numbered OrderKey Order)
  pub order_lines : List (Numbered OrderLineKey OrderLine)
  pub items : List (Numbered ItemKey Item)
  pub stocks : List (Numbered StockKey Stock)

-- the rows of these files were put
pub record FilesPut (f : NineRows) (end : Rows) (parted : List apart.Apart) : Type 0 where
  pub middle : Rows
  pub parted_middle : List apart.Apart
  pub base : BasePut f.warehouses f.districts f.customers f.items f.stocks middle [] parted_middle
  pub deeds : DeedsPut f.orders f.order_lines f.new_orders f.histories middle end parted_middle parted

-- files are read one after another, and each adds its faults to those before
abbrev pub WarehousesRead : Format → Option Source → Option Source → Told TableFault → Told TableFault
    → List (Numbered WarehouseKey Warehouse) → Type 0
WarehousesRead format =
    TableReadAs format warehouse_cmp (λ k. key.Warehouse k) (SpellsRow warehouse_forms warehouse_values) table.Warehouse

abbrev pub DistrictsRead : Format → Option Source → Option Source → Told TableFault → Told TableFault
    → List (Numbered DistrictKey District) → Type 0
DistrictsRead format =
    TableReadAs format district_cmp (λ k. key.District k) (SpellsRow district_forms district_values) table.District

abbrev pub CustomersRead : Format → Option Source → Option Source → Told TableFault → Told TableFault
    → List (Numbered CustomerKey Customer) → Type 0
CustomersRead format =
    TableReadAs format customer_cmp (λ k. key.Customer k) (SpellsRow customer_forms customer_values) table.Customer

abbrev pub HistoriesRead : Format → Option Source → Option Source → Told TableFault → Told TableFault
    → List (Numbered HistoryKey History) → Type 0
HistoriesRead format = TableReadAs format history_cmp (λ k. key.History k) SpellsHistory table.History

abbrev pub NewOrdersRead : Format → Option Source → Option Source → Told TableFault → Told TableFault
    → List (Numbered NewOrderKey NewOrder) → Type 0
NewOrdersRead format =
    TableReadAs format new_order_cmp (λ k. key.NewOrder k) (SpellsRow new_order_forms new_order_values) table.NewOrder

abbrev pub OrdersRead : Format → Option Source → Option Source → Told TableFault → Told TableFault
    → List (Numbered OrderKey Order) → Type 0
OrdersRead format = TableReadAs format order_cmp (λ k. key.Order k) (SpellsRow order_forms order_values) table.Order

abbrev pub OrderLinesRead : Format → Option Source → Option Source → Told TableFault → Told TableFault
    → List (Numbered OrderLineKey OrderLine) → Type 0
OrderLinesRead format =
    TableReadAs format order_line_cmp (λ k. key.OrderLine k) (SpellsRow order_line_forms order_line_values)
    table.OrderLine

abbrev pub ItemsRead : Format → Option Source → Option Source → Told TableFault → Told TableFault
    → List (Numbered ItemKey Item) → Type 0
ItemsRead format = TableReadAs format item_cmp (λ k. key.Item k) (SpellsRow item_forms item_values) table.Item

abbrev pub StocksRead : Format → Option Source → Option Source → Told TableFault → Told TableFault
    → List (Numbered StockKey Stock) → Type 0
StocksRead format = TableReadAs format stock_cmp (λ k. key.Stock k) (SpellsRow stock_forms stock_values) table.Stock

-- reading the files one after another gave these rows, and added these faults to the faults at the start
pub record FilesTold (format : Format) (old new : Nine) (f : NineRows) (start told : Told TableFault) : Type 0 where
  pub told_warehouses : Told TableFault
  pub told_districts : Told TableFault
  pub told_customers : Told TableFault
  pub told_items : Told TableFault
  pub told_stocks : Told TableFault
  pub told_orders : Told TableFault
  pub told_order_lines : Told TableFault
  pub told_new_orders : Told TableFault
  pub warehouses : WarehousesRead format old.warehouse new.warehouse start told_warehouses f.warehouses
  pub districts : DistrictsRead format old.district new.district told_warehouses told_districts f.districts
  pub customers : CustomersRead format old.customer new.customer told_districts told_customers f.customers
  pub items : ItemsRead format old.item new.item told_customers told_items f.items
  pub stocks : StocksRead format old.stock new.stock told_items told_stocks f.stocks
  pub orders : OrdersRead format old.order new.order told_stocks told_orders f.orders
  pub order_lines : OrderLinesRead format old.order_line new.order_line told_orders told_order_lines
      f.order_lines
  pub new_orders : NewOrdersRead format old.new_order new.new_order told_order_lines told_new_orders f.new_orders
  pub histories : HistoriesRead format old.history new.history told_new_orders told f.histories

-- each file was read to its end, and gave these rows
pub record FilesRead (format : Format) (old new : Nine) (f : NineRows) : Type 0 where
  pub warehouses : ReadWellAs format warehouse_cmp (SpellsRow warehouse_forms warehouse_values) table.Warehouse
      old.warehouse
      new.warehouse f.warehouses
  pub districts : ReadWellAs format district_cmp (SpellsRow district_forms district_values) table.District old.district
      new.district f.districts
  pub customers : ReadWellAs format customer_cmp (SpellsRow customer_forms customer_values) table.Customer old.customer
      new.customer f.customers
  pub histories : ReadWellAs format history_cmp SpellsHistory table.History old.history new.history f.histories
  pub new_orders : ReadWellAs format new_order_cmp (SpellsRow new_order_forms new_order_values) table.NewOrder
      old.new_order
      new.new_order f.new_orders
  pub orders : ReadWellAs format order_cmp (SpellsRow order_forms order_values) table.Order old.order new.order
      f.orders
  pub order_lines : ReadWellAs format order_line_cmp (SpellsRow order_line_forms order_line_values) table.OrderLine
      old.order_line new.order_line f.order_lines
  pub items : ReadWellAs format item_cmp (SpellsRow item_forms item_values) table.Item old.item new.item f.items
  pub stocks : ReadWellAs format stock_cmp (SpellsRow stock_forms stock_values) table.Stock old.stock new.stock
      f.stocks

-- how many rows each file has
abbrev pub counts_of : NineRows → RowCounts
counts_of f = record {
  warehouses = length f.warehouses;
  districts = length f.districts;
  customers = length f.customers;
  histories = length f.histories;
  new_orders = length f.new_orders;
  orders = length f.orders;
  order_lines = length f.order_lines;
  items = length f.items;
  stocks = length f.stocks;
}

-- ---- a file at a time

-- A table's file was read, and its rows were put and counted; where a fault was told by then, none is put.
pub record TableLoaded {K X : Type 0}
    (reads : Option Source → Option Source → Told TableFault → Told TableFault → List (Numbered K X) → Type 0)
    (puts : List (Numbered K X) → Rows → Rows → List apart.Apart → List apart.Apart → Type 0)
    (old new : Option Source) (start told : Told TableFault) (r s : Rows)
    (parted parted' : List apart.Apart) (count : ℕ) : Type 0 where
  pub lot : List (Numbered K X)
  pub read : reads old new start told lot
  pub put : told.count ≡ 0 → puts lot r s parted parted'
  pub left : 0 < told.count → (s ≡ r) × (parted' ≡ parted)
  pub counted : count ≡ length lot

-- the files of warehouses and districts were read, and their rows kept where no line is a fault
pub record HomesLoaded (format : Format) (warehouse warehouse' district district' : Option Source)
    (start told : Told TableFault) (end : Rows) (parted parted' : List apart.Apart)
    (warehouse_count district_count : ℕ) : Type 0 where
  pub warehouses : List (Numbered WarehouseKey Warehouse)
  pub districts : List (Numbered DistrictKey District)
  pub middle : Told TableFault
  pub read_warehouses : WarehousesRead format warehouse warehouse' start middle warehouses
  pub read_districts : DistrictsRead format district district' middle told districts
  pub put : told.count ≡ 0 → HomesPut warehouses districts end parted parted'
  pub counted : (warehouse_count ≡ length warehouses) × (district_count ≡ length districts)

-- the files of what orders refer to were read, and their rows put where no line is a fault
pub record BaseLoaded (format : Format) (old new : Nine) (start told : Told TableFault) (end : Rows)
    (parted parted' : List apart.Apart) (b : begun.Begun) : Type 0 where
  pub warehouses : List (Numbered WarehouseKey Warehouse)
  pub districts : List (Numbered DistrictKey District)
  pub customers : List (Numbered CustomerKey Customer)
  pub items : List (Numbered ItemKey Item)
  pub stocks : List (Numbered StockKey Stock)
  pub told_warehouses : Told TableFault
  pub told_districts : Told TableFault
  pub told_customers : Told TableFault
  pub told_items : Told TableFault
  pub read_warehouses : WarehousesRead format old.warehouse new.warehouse start told_warehouses warehouses
  pub read_districts : DistrictsRead format old.district new.district told_warehouses told_districts districts
  pub read_customers : CustomersRead format old.customer new.customer told_districts told_customers customers
  pub read_items : ItemsRead format old.item new.item told_customers told_items items
  pub read_stocks : StocksRead format old.stock new.stock told_items told stocks
  pub put : told.count ≡ 0 → BasePut warehouses districts customers items stocks end parted parted'
  pub counted : (b.warehouses ≡ length warehouses) × (b.districts ≡ length districts)
      × (b.customers ≡ length customers) × (b.items ≡ length items) × (b.stocks ≡ length stocks)

-- the files of orders and of what refers to them were read, and their rows put where no line is a fault
pub record DeedsLoaded (format : Format) (old new : Nine) (start told : Told TableFault) (r end : Rows)
    (parted parted' : List apart.Apart) (d : counts.DeedCounts) : Type 0 where
  pub orders : List (Numbered OrderKey Order)
  pub order_lines : List (Numbered OrderLineKey OrderLine)
  pub new_orders : List (Numbered NewOrderKey NewOrder)
  pub histories : List (Numbered HistoryKey History)
  pub told_orders : Told TableFault
  pub told_order_lines : Told TableFault
  pub told_new_orders : Told TableFault
  pub read_orders : OrdersRead format old.order new.order start told_orders orders
  pub read_order_lines : OrderLinesRead format old.order_line new.order_line told_orders told_order_lines order_lines
  pub read_new_orders : NewOrdersRead format old.new_order new.new_order told_order_lines told_new_orders new_orders
  pub read_histories : HistoriesRead format old.history new.history told_new_orders told histories
  pub put : told.count ≡ 0 → DeedsPut orders order_lines new_orders histories r end parted parted'
  pub counted : (d.orders ≡ length orders) × (d.order_lines ≡ length order_lines)
      × (d.new_orders ≡ length new_orders) × (d.histories ≡ length histories)

-- all files were read, and their rows put where no line is a fault
pub record FilesLoaded (format : Format) (old new : Nine) (start told : Told TableFault) (end : Rows)
    (parted : List apart.Apart) (counts : RowCounts) : Type 0 where
  pub files : NineRows
  pub read : FilesTold format old new files start told
  pub put : told.count ≡ 0 → FilesPut files end parted
  pub counted : counts ≡ counts_of files

-- ---- what is answered

-- the files were read, none has a fault, and their rows were put and counted
pub record AreLoaded (format : Format) (old new : Nine) (end : Rows) (parted : List apart.Apart) (counts : RowCounts)
    : Type 0 where
  pub files : NineRows
  pub read : FilesRead format old new files
  pub put : FilesPut files end parted
  pub counted : counts ≡ counts_of files

abbrev pub IsLoaded : Format → Nine → Nine → loaded.Loaded → Type 0
IsLoaded format old new l = AreLoaded format old new (rows l.tables) l.apart.items l.counts

-- the faults of the files, at least one
pub record AreFaults (format : Format) (old new : Nine) (told : Told TableFault) : Type 0 where
  pub files : NineRows
  pub read : FilesTold format old new files no_faults told
  pub some : 0 < told.count

-- nothing is loaded: some line can't be read, or the files were not read to their ends
abbrev pub IsNotLoaded : Format → Nine → Nine → LoadError → Type 0
IsNotLoaded format old new (error.Unreadable told) = AreFaults format old new told
IsNotLoaded format old new (error.Stopped stop) = Unit {0}
