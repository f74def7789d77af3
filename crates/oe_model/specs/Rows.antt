-- The nine tables (clause 1.3), and the tables as one map from key to row. The rows' types have the ranges of columns.
use Rattle.std.specs.Prelude.{Bool, false, Option, None, Some, option_map}
use Rattle.std.specs.Ordering.{eq_by_cmp}
use Rattle.std.specs.declared.cmp.Ordering.{Ordering}
use Rattle.std.specs.FinMap.{FinMap, get, insert, remove}
use Rattle.oe_rows.specs.Key.{warehouse_cmp, district_cmp, customer_cmp, history_cmp, new_order_cmp, order_cmp}
use Rattle.oe_rows.specs.Key.{order_line_cmp, item_cmp, stock_cmp}
use Rattle.oe_rows.specs.declared.warehouses.Warehouse.{Warehouse}
use Rattle.oe_rows.specs.declared.districts.District.{District}
use Rattle.oe_rows.specs.declared.customers.Customer.{Customer}
use Rattle.oe_rows.specs.declared.histories.History.{History}
use Rattle.oe_rows.specs.declared.orders.NewOrder.{NewOrder}
use Rattle.oe_rows.specs.declared.orders.Order.{Order}
use Rattle.oe_rows.specs.declared.orders.OrderLine.{OrderLine}
use Rattle.oe_rows.specs.declared.items.Item.{Item}
use Rattle.oe_rows.specs.declared.items.Stock.{Stock}
use Rattle.oe_rows.specs.declared.keys.Key.{Key}
use Rattle.oe_rows.specs.declared.keys.Key.TheVariants as key
use Rattle.oe_rows.specs.declared.rows.Row.{Row}
use Rattle.oe_rows.specs.declared.rows.Row.TheVariants as row

-- the rows of a database
pub record Rows : Type 0 where
  pub warehouses : FinMap warehouse_cmp Warehouse
  pub districts : FinMap district_cmp District
  pub customers : FinMap customer_cmp Customer
  pub histories : FinMap history_cmp History
  pub new_orders : FinMap new_order_cmp NewOrder
  pub orders : FinMap order_cmp Order
  pub order_lines : FinMap order_line_cmp OrderLine
  pub items : FinMap item_cmp Item
  pub stocks : FinMap stock_cmp Stock

-- two keys are the same key of the same table
abbrev pub is_key : Key → Key → Bool
is_key (key.Warehouse a) (key.Warehouse b) = eq_by_cmp warehouse_cmp a b
is_key (key.District a) (key.District b) = eq_by_cmp district_cmp a b
is_key (key.Customer a) (key.Customer b) = eq_by_cmp customer_cmp a b
is_key (key.History a) (key.History b) = eq_by_cmp history_cmp a b
is_key (key.NewOrder a) (key.NewOrder b) = eq_by_cmp new_order_cmp a b
is_key (key.Order a) (key.Order b) = eq_by_cmp order_cmp a b
is_key (key.OrderLine a) (key.OrderLine b) = eq_by_cmp order_line_cmp a b
is_key (key.Item a) (key.Item b) = eq_by_cmp item_cmp a b
is_key (key.Stock a) (key.Stock b) = eq_by_cmp stock_cmp a b
is_key _ _ = false

-- the row of a key, where there is one
abbrev pub row_at : Rows → Key → Option Row
row_at r (key.Warehouse k) = option_map row.Warehouse (get r.warehouses k)
row_at r (key.District k) = option_map row.District (get r.districts k)
row_at r (key.Customer k) = option_map row.Customer (get r.customers k)
row_at r (key.History k) = option_map row.History (get r.histories k)
row_at r (key.NewOrder k) = option_map row.NewOrder (get r.new_orders k)
row_at r (key.Order k) = option_map row.Order (get r.orders k)
row_at r (key.OrderLine k) = option_map row.OrderLine (get r.order_lines k)
row_at r (key.Item k) = option_map row.Item (get r.items k)
row_at r (key.Stock k) = option_map row.Stock (get r.stocks k)

-- a table with this row at the key, or with none
abbrev pub with_row : {K X : Type 0} {R : K → K → Ordering} → K → Option X → FinMap R X → FinMap R X
with_row k None m = remove m k
with_row k (Some x) m = insert m k x

-- the row as one of its table's, where it is one
abbrev pub as_warehouse : Row → Option Warehouse
as_warehouse (row.Warehouse x) = Some x
as_warehouse _ = None

abbrev pub as_district : Row → Option District
as_district (row.District x) = Some x
as_district _ = None

abbrev pub as_customer : Row → Option Customer
as_customer (row.Customer x) = Some x
as_customer _ = None

abbrev pub as_history : Row → Option History
as_history (row.History x) = Some x
as_history _ = None

abbrev pub as_new_order : Row → Option NewOrder
as_new_order (row.NewOrder x) = Some x
as_new_order _ = None

abbrev pub as_order : Row → Option Order
as_order (row.Order x) = Some x
as_order _ = None

abbrev pub as_order_line : Row → Option OrderLine
as_order_line (row.OrderLine x) = Some x
as_order_line _ = None

abbrev pub as_stock : Row → Option Stock
as_stock (row.Stock x) = Some x
as_stock _ = None
