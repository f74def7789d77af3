-- The numbers of keys: a key has a number of its own on its shelf of a table, and a value that is no key has none.
use Rattle.std.specs.Prelude.{ℕ, ◌+◌, ◌*◌, cond, ltb, ◌&&◌, Option, None, Some}
use Rattle.oe_rows.specs.declared.keys.WarehouseKey.{WarehouseKey}
use Rattle.oe_rows.specs.declared.keys.DistrictKey.{DistrictKey}
use Rattle.oe_rows.specs.declared.keys.CustomerKey.{CustomerKey}
use Rattle.oe_rows.specs.declared.keys.NewOrderKey.{NewOrderKey}
use Rattle.oe_rows.specs.declared.keys.OrderKey.{OrderKey}
use Rattle.oe_rows.specs.declared.keys.OrderLineKey.{OrderLineKey}
use Rattle.oe_rows.specs.declared.keys.ItemKey.{ItemKey}
use Rattle.oe_rows.specs.declared.keys.StockKey.{StockKey}

-- a number, where this is a district's from 1 to 10
abbrev pub in_district : ℕ → ℕ → Option ℕ
in_district d n = cond (ltb 0 d && ltb d 11) (Some n) None

abbrev pub warehouse_number : WarehouseKey → Option ℕ
warehouse_number k = Some k.warehouse

abbrev pub district_number : DistrictKey → Option ℕ
district_number k = in_district k.district (10 * k.warehouse + k.district)

abbrev pub customer_number : CustomerKey → Option ℕ
customer_number k = in_district k.district k.customer

abbrev pub new_order_number : NewOrderKey → Option ℕ
new_order_number k = in_district k.district k.order

abbrev pub order_number : OrderKey → Option ℕ
order_number k = in_district k.district k.order

-- fifteen for each order, one for each of its lines
abbrev pub order_line_number : OrderLineKey → Option ℕ
order_line_number k = cond (ltb 0 k.number && ltb k.number 16) (in_district k.district (15 * k.order + k.number)) None

abbrev pub item_number : ItemKey → Option ℕ
item_number k = Some k.item

abbrev pub stock_number : StockKey → Option ℕ
stock_number k = Some k.item
