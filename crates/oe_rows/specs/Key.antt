-- Keys and their order: by the columns from the left (clause 1.3.1).
use Rattle.std.specs.Prelude.{ℕ, List, [], ◌∷◌, codes}
use Rattle.std.specs.Int.{IsInRange}
use Rattle.std.specs.declared.cmp.Ordering.{Ordering}
use Rattle.std.specs.Ordering.{nat_cmp, ordering_then}
use Rattle.oe_rows.specs.declared.keys.WarehouseKey.{WarehouseKey}
use Rattle.oe_rows.specs.declared.keys.DistrictKey.{DistrictKey}
use Rattle.oe_rows.specs.declared.keys.CustomerKey.{CustomerKey}
use Rattle.oe_rows.specs.declared.keys.HistoryKey.{HistoryKey}
use Rattle.oe_rows.specs.declared.keys.NewOrderKey.{NewOrderKey}
use Rattle.oe_rows.specs.declared.keys.OrderKey.{OrderKey}
use Rattle.oe_rows.specs.declared.keys.OrderLineKey.{OrderLineKey}
use Rattle.oe_rows.specs.declared.keys.ItemKey.{ItemKey}
use Rattle.oe_rows.specs.declared.keys.StockKey.{StockKey}
use Rattle.oe_rows.specs.declared.keys.Key.{Key}
use Rattle.oe_rows.specs.declared.keys.Key.TheVariants as key
use Rattle.oe_rows.specs.declared.keys.Table.{Table}
use Rattle.oe_rows.specs.declared.keys.Table.TheVariants as table

abbrev pub warehouse_cmp : WarehouseKey → WarehouseKey → Ordering
warehouse_cmp a b = nat_cmp a.warehouse b.warehouse

abbrev pub district_cmp : DistrictKey → DistrictKey → Ordering
district_cmp a b = ordering_then (nat_cmp a.warehouse b.warehouse) (nat_cmp a.district b.district)

abbrev pub customer_cmp : CustomerKey → CustomerKey → Ordering
customer_cmp a b =
    ordering_then (nat_cmp a.warehouse b.warehouse)
    (ordering_then (nat_cmp a.district b.district) (nat_cmp a.customer b.customer))

abbrev pub history_cmp : HistoryKey → HistoryKey → Ordering
history_cmp a b =
    ordering_then (nat_cmp a.terminal b.terminal)
    (ordering_then (nat_cmp a.number b.number) (nat_cmp a.ordinal b.ordinal))

abbrev pub new_order_cmp : NewOrderKey → NewOrderKey → Ordering
new_order_cmp a b =
    ordering_then (nat_cmp a.warehouse b.warehouse)
    (ordering_then (nat_cmp a.district b.district) (nat_cmp a.order b.order))

abbrev pub order_cmp : OrderKey → OrderKey → Ordering
order_cmp a b =
    ordering_then (nat_cmp a.warehouse b.warehouse)
    (ordering_then (nat_cmp a.district b.district) (nat_cmp a.order b.order))

abbrev pub order_line_cmp : OrderLineKey → OrderLineKey → Ordering
order_line_cmp a b =
    ordering_then (nat_cmp a.warehouse b.warehouse)
    (ordering_then (nat_cmp a.district b.district)
    (ordering_then (nat_cmp a.order b.order) (nat_cmp a.number b.number)))

abbrev pub item_cmp : ItemKey → ItemKey → Ordering
item_cmp a b = nat_cmp a.item b.item

abbrev pub stock_cmp : StockKey → StockKey → Ordering
stock_cmp a b = ordering_then (nat_cmp a.warehouse b.warehouse) (nat_cmp a.item b.item)

-- the ranges of the columns of districts' and customers' keys
pub record IsDistrictKey (k : DistrictKey) : Type 0 where
  pub warehouse : IsInRange 1 16 k.warehouse
  pub district : IsInRange 1 10 k.district

pub record IsCustomerKey (k : CustomerKey) : Type 0 where
  pub warehouse : IsInRange 1 16 k.warehouse
  pub district : IsInRange 1 10 k.district
  pub customer : IsInRange 1 3_000 k.customer

-- the table whose rows have such keys
abbrev pub table_of : Key → Table
table_of (key.Warehouse k) = table.Warehouse
table_of (key.District k) = table.District
table_of (key.Customer k) = table.Customer
table_of (key.History k) = table.History
table_of (key.NewOrder k) = table.NewOrder
table_of (key.Order k) = table.Order
table_of (key.OrderLine k) = table.OrderLine
table_of (key.Item k) = table.Item
table_of (key.Stock k) = table.Stock

-- the name of a table in an answer
abbrev pub table_name : Table → List ℕ
table_name table.Warehouse = codes "warehouse"
table_name table.District = codes "district"
table_name table.Customer = codes "customer"
table_name table.History = codes "history"
table_name table.NewOrder = codes "neworder"
table_name table.Order = codes "order"
table_name table.OrderLine = codes "orderline"
table_name table.Item = codes "item"
table_name table.Stock = codes "stock"

-- the columns of a key, from the left
abbrev pub key_columns : Key → List ℕ
key_columns (key.Warehouse k) = k.warehouse ∷ []
key_columns (key.District k) = k.warehouse ∷ k.district ∷ []
key_columns (key.Customer k) = k.warehouse ∷ k.district ∷ k.customer ∷ []
key_columns (key.History k) = k.terminal ∷ k.number ∷ k.ordinal ∷ []
key_columns (key.NewOrder k) = k.warehouse ∷ k.district ∷ k.order ∷ []
key_columns (key.Order k) = k.warehouse ∷ k.district ∷ k.order ∷ []
key_columns (key.OrderLine k) = k.warehouse ∷ k.district ∷ k.order ∷ k.number ∷ []
key_columns (key.Item k) = k.item ∷ []
key_columns (key.Stock k) = k.warehouse ∷ k.item ∷ []
