-- What the tables store: the places of each table's keys, and the rows that stand in them.
use Rattle.std.specs.Prelude.{◌≡◌, ◌≢◌, ◌↔◌, ◌⊎◌, Bool, List, Option, IsSome}
use Rattle.std.specs.Int.{IsInRange}
use Rattle.std.specs.Ordering.{eq_by_cmp}
use Rattle.std.specs.declared.cmp.Ordering.{Ordering}
use Rattle.std.specs.FinMap.{FinMap, empty, entries, retain_keys}
use Rattle.oe_rows.specs.Key.{warehouse_cmp, district_cmp, customer_cmp, history_cmp, new_order_cmp, order_cmp}
use Rattle.oe_rows.specs.Key.{order_line_cmp, item_cmp, stock_cmp}
use Rattle.oe_rows.specs.declared.keys.WarehouseKey.{WarehouseKey}
use Rattle.oe_rows.specs.declared.keys.DistrictKey.{DistrictKey}
use Rattle.oe_rows.specs.declared.keys.CustomerKey.{CustomerKey}
use Rattle.oe_rows.specs.declared.keys.HistoryKey.{HistoryKey}
use Rattle.oe_rows.specs.declared.keys.NewOrderKey.{NewOrderKey}
use Rattle.oe_rows.specs.declared.keys.OrderKey.{OrderKey}
use Rattle.oe_rows.specs.declared.keys.OrderLineKey.{OrderLineKey}
use Rattle.oe_rows.specs.declared.keys.ItemKey.{ItemKey}
use Rattle.oe_rows.specs.declared.keys.StockKey.{StockKey}
use Rattle.oe_rows.specs.declared.keys.Key.{Key}
use Rattle.oe_rows.specs.declared.keys.Key.TheVariants as key
use Rattle.oe_rows.specs.declared.warehouses.Warehouse.{Warehouse}
use Rattle.oe_rows.specs.declared.districts.District.{District}
use Rattle.oe_rows.specs.declared.customers.Customer.{Customer}
use Rattle.oe_rows.specs.declared.histories.History.{History}
use Rattle.oe_rows.specs.declared.orders.NewOrder.{NewOrder}
use Rattle.oe_rows.specs.declared.orders.Order.{Order}
use Rattle.oe_rows.specs.declared.orders.OrderLine.{OrderLine}
use Rattle.oe_rows.specs.declared.items.Item.{Item}
use Rattle.oe_rows.specs.declared.items.Stock.{Stock}
use Rattle.oe_table.specs.Table.{place, rows_of}
use Rattle.oe_index.specs.Listed.{Keys}
use Rattle.oe_model.specs.Rows.{Rows, row_at}
use Rattle.oe_model.specs.Meets.{Meets}

-- the keys that are listed under each number, and whether the lists stand; else they were given up
pub record Listing (K : Type 0) : Type 0 where
  pub lists : List (Keys K)
  pub is_listed : Bool

-- the places of each table, in its keys' order: each has a row, or is blanked; and the customers that are listed under
-- last names
pub record Places : Type 0 where
  pub warehouses : List (WarehouseKey × Option Warehouse)
  pub districts : List (DistrictKey × Option District)
  pub customers : List (CustomerKey × Option Customer)
  pub histories : List (HistoryKey × Option History)
  pub new_orders : List (NewOrderKey × Option NewOrder)
  pub orders : List (OrderKey × Option Order)
  pub order_lines : List (OrderLineKey × Option OrderLine)
  pub items : List (ItemKey × Option Item)
  pub stocks : List (StockKey × Option Stock)
  pub names : Listing CustomerKey

-- the rows of each table
abbrev pub rows : Places → Rows
rows s = record {
  warehouses = rows_of warehouse_cmp s.warehouses;
  districts = rows_of district_cmp s.districts;
  customers = rows_of customer_cmp s.customers;
  histories = rows_of history_cmp s.histories;
  new_orders = rows_of new_order_cmp s.new_orders;
  orders = rows_of order_cmp s.orders;
  order_lines = rows_of order_line_cmp s.order_lines;
  items = rows_of item_cmp s.items;
  stocks = rows_of stock_cmp s.stocks;
}

-- the key has a place in its table, with a row or blanked
abbrev pub HasPlace : Places → Key → Type 0
HasPlace s (key.Warehouse k) = IsSome (place warehouse_cmp s.warehouses k)
HasPlace s (key.District k) = IsSome (place district_cmp s.districts k)
HasPlace s (key.Customer k) = IsSome (place customer_cmp s.customers k)
HasPlace s (key.History k) = IsSome (place history_cmp s.histories k)
HasPlace s (key.NewOrder k) = IsSome (place new_order_cmp s.new_orders k)
HasPlace s (key.Order k) = IsSome (place order_cmp s.orders k)
HasPlace s (key.OrderLine k) = IsSome (place order_line_cmp s.order_lines k)
HasPlace s (key.Item k) = IsSome (place item_cmp s.items k)
HasPlace s (key.Stock k) = IsSome (place stock_cmp s.stocks k)

-- the same keys have places
abbrev pub SamePlaces : Places → Places → Type 0
SamePlaces old new = (k : Key) → HasPlace new k ↔ HasPlace old k

-- the same keys have places, and this key
abbrev pub AddsPlace : Places → Places → Key → Type 0
AddsPlace old new own = (k : Key) → HasPlace new k ↔ (HasPlace old k ⊎ (k ≡ own))

-- this key has no place any more, and each other key has one as before
abbrev pub LosesPlace : Places → Places → Key → Type 0
LosesPlace old new own = (k : Key) → HasPlace new k ↔ (HasPlace old k × (k ≢ own))

-- the keys that have places are those that have rows
abbrev pub IsSwept : Rows → Places → Type 0
IsSwept r s = (k : Key) → HasPlace s k ↔ IsSome (row_at r k)

-- a key without a row has no place any more, and each other key has one as before
abbrev pub GivesUp : Places → Places → Key → Type 0
GivesUp old new own = (k : Key) → HasPlace new k ↔ (HasPlace old k × ((k ≡ own) → IsSome (row_at (rows old) k)))

-- the rows of one group, in the keys' order: `group_of` is a key's group
abbrev pub entries_of : {K G X : Type 0} {R : K → K → Ordering} → (G → G → Ordering) → (K → G) → G → FinMap R X
    → List (K × X)
entries_of cmp group_of group m = entries (retain_keys m (λ k. eq_by_cmp cmp (group_of k) group))

-- no table has a row
abbrev pub no_rows : Rows
no_rows = record {
  warehouses = empty;
  districts = empty;
  customers = empty;
  histories = empty;
  new_orders = empty;
  orders = empty;
  order_lines = empty;
  items = empty;
  stocks = empty;
}

-- the numbers that tell rows of one group apart are in their ranges (clause 1.3.1)
abbrev pub IsNumbered : Key → Type 0
IsNumbered (key.District k) = IsInRange 1 10 k.district
IsNumbered (key.Customer k) = IsInRange 1 3_000 k.customer
IsNumbered (key.NewOrder k) = IsInRange 1 10_000_000 k.order
IsNumbered (key.Order k) = IsInRange 1 10_000_000 k.order
IsNumbered (key.OrderLine k) = IsInRange 1 10_000_000 k.order × IsInRange 1 15 k.number
IsNumbered _ = Unit {0}

-- what the tables' type keeps of their rows
pub record IsSound (r : Rows) : Type 0 where
  pub schema : Meets r
  pub numbered : (k : Key) → IsSome (row_at r k) → IsNumbered k
