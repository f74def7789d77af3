-- The tables that orders refer to: warehouses with their districts, customers, items and stocks.
use Rattle.std.specs.Prelude.{◌≡◌, List, Option, IsSome}
use Rattle.std.specs.Int.{IsInRange}
use Rattle.std.specs.FinMap.{get, empty}
use Rattle.oe_model.specs.Rows.{Rows}
use Rattle.oe_rows.specs.Key.{warehouse_cmp, district_cmp, customer_cmp, item_cmp, stock_cmp}
use Rattle.oe_rows.specs.declared.keys.WarehouseKey.{WarehouseKey}
use Rattle.oe_rows.specs.declared.keys.DistrictKey.{DistrictKey}
use Rattle.oe_rows.specs.declared.keys.CustomerKey.{CustomerKey}
use Rattle.oe_rows.specs.declared.keys.ItemKey.{ItemKey}
use Rattle.oe_rows.specs.declared.keys.StockKey.{StockKey}
use Rattle.oe_rows.specs.declared.warehouses.Warehouse.{Warehouse}
use Rattle.oe_rows.specs.declared.districts.District.{District}
use Rattle.oe_rows.specs.declared.customers.Customer.{Customer}
use Rattle.oe_rows.specs.declared.items.Item.{Item}
use Rattle.oe_rows.specs.declared.items.Stock.{Stock}
use Rattle.oe_model.specs.Keys.{district_of_customer, warehouse_of_stock, item_of_stock}
use Rattle.oe_table.specs.Table.{rows_of}
use Rattle.oe_file_loading.specs.Homes.{AreHomes}

-- the places of each table
pub record BasePlaces : Type 0 where
  pub warehouses : List (WarehouseKey × Option Warehouse)
  pub districts : List (DistrictKey × Option District)
  pub customers : List (CustomerKey × Option Customer)
  pub items : List (ItemKey × Option Item)
  pub stocks : List (StockKey × Option Stock)

-- what the five tables keep of their rows
pub record IsBase (s : BasePlaces) : Type 0 where
  pub homes : AreHomes (rows_of warehouse_cmp s.warehouses) (rows_of district_cmp s.districts)
  pub customers : (k : CustomerKey) → IsSome (get (rows_of customer_cmp s.customers) k)
      → IsSome (get (rows_of district_cmp s.districts) (district_of_customer k)) × IsInRange 1 3_000 k.customer
  pub stocks : (k : StockKey) → IsSome (get (rows_of stock_cmp s.stocks) k)
      → IsSome (get (rows_of warehouse_cmp s.warehouses) (warehouse_of_stock k))
      × IsSome (get (rows_of item_cmp s.items) (item_of_stock k))

-- their rows, and none of orders
abbrev pub base_rows : BasePlaces → Rows
base_rows s = record {
  warehouses = rows_of warehouse_cmp s.warehouses;
  districts = rows_of district_cmp s.districts;
  customers = rows_of customer_cmp s.customers;
  histories = empty;
  new_orders = empty;
  orders = empty;
  order_lines = empty;
  items = rows_of item_cmp s.items;
  stocks = rows_of stock_cmp s.stocks;
}

-- no table has a row but warehouses and districts
pub record OnlyHomes (r : Rows) : Type 0 where
  pub customers : r.customers ≡ empty
  pub items : r.items ≡ empty
  pub stocks : r.stocks ≡ empty

-- no table has a row of orders, or of what refers to orders
pub record OnlyBase (r : Rows) : Type 0 where
  pub histories : r.histories ≡ empty
  pub new_orders : r.new_orders ≡ empty
  pub orders : r.orders ≡ empty
  pub order_lines : r.order_lines ≡ empty
