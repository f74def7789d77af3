-- What keys tell of each other (clause 1.3): the rows that a key or a row refers to, and the keys within a district.
use Rattle.std.specs.Prelude.{ℕ}
use Rattle.oe_rows.specs.declared.keys.WarehouseKey.{WarehouseKey}
use Rattle.oe_rows.specs.declared.keys.DistrictKey.{DistrictKey}
use Rattle.oe_rows.specs.declared.keys.CustomerKey.{CustomerKey}
use Rattle.oe_rows.specs.declared.keys.NewOrderKey.{NewOrderKey}
use Rattle.oe_rows.specs.declared.keys.OrderKey.{OrderKey}
use Rattle.oe_rows.specs.declared.keys.OrderLineKey.{OrderLineKey}
use Rattle.oe_rows.specs.declared.keys.ItemKey.{ItemKey}
use Rattle.oe_rows.specs.declared.keys.StockKey.{StockKey}
use Rattle.oe_rows.specs.declared.orders.Order.{Order}
use Rattle.oe_rows.specs.declared.orders.OrderLine.{OrderLine}

-- (D_W_ID)
abbrev pub warehouse_of_district : DistrictKey → WarehouseKey
warehouse_of_district k = record { warehouse = k.warehouse }

-- (C_W_ID, C_D_ID)
abbrev pub district_of_customer : CustomerKey → DistrictKey
district_of_customer k = record { warehouse = k.warehouse; district = k.district }

-- (NO_W_ID, NO_D_ID)
abbrev pub district_of_new_order : NewOrderKey → DistrictKey
district_of_new_order k = record { warehouse = k.warehouse; district = k.district }

-- (NO_W_ID, NO_D_ID, NO_O_ID)
abbrev pub order_of_new_order : NewOrderKey → OrderKey
order_of_new_order k = record { warehouse = k.warehouse; district = k.district; order = k.order }

-- (O_W_ID, O_D_ID)
abbrev pub district_of_order : OrderKey → DistrictKey
district_of_order k = record { warehouse = k.warehouse; district = k.district }

-- (OL_W_ID, OL_D_ID, OL_O_ID)
abbrev pub order_of_line : OrderLineKey → OrderKey
order_of_line k = record { warehouse = k.warehouse; district = k.district; order = k.order }

-- (S_W_ID)
abbrev pub warehouse_of_stock : StockKey → WarehouseKey
warehouse_of_stock k = record { warehouse = k.warehouse }

-- (S_I_ID)
abbrev pub item_of_stock : StockKey → ItemKey
item_of_stock k = record { item = k.item }

-- the customer, the order, and the NEW-ORDER row of a district with this number, and the line of an order
abbrev pub customer_in : DistrictKey → ℕ → CustomerKey
customer_in h c = record { warehouse = h.warehouse; district = h.district; customer = c }

abbrev pub order_in : DistrictKey → ℕ → OrderKey
order_in h o = record { warehouse = h.warehouse; district = h.district; order = o }

abbrev pub new_order_in : DistrictKey → ℕ → NewOrderKey
new_order_in h o = record { warehouse = h.warehouse; district = h.district; order = o }

abbrev pub line_in : OrderKey → ℕ → OrderLineKey
line_in k n = record { warehouse = k.warehouse; district = k.district; order = k.order; number = n }

-- (O_W_ID, O_D_ID, O_C_ID)
abbrev pub customer_of_order : OrderKey → Order → CustomerKey
customer_of_order k x = customer_in (district_of_order k) x.customer

-- (OL_SUPPLY_W_ID, OL_I_ID)
abbrev pub supply_of_line : OrderLine → StockKey
supply_of_line x = record { warehouse = x.supply; item = x.item }
