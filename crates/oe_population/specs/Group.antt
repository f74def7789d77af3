-- Which keys have a row in the population, district by district and order by order.
use Rattle.std.specs.Prelude.{ℕ, ◌+◌, ◌-◌, ◌*◌, ◌==◌, Bool, not, ◌&&◌, nat_le}
use Rattle.std.specs.Ordering.{eq_by_cmp}
use Rattle.oe_rows.specs.Key.{history_cmp}
use Rattle.oe_rows.specs.declared.scales.Scale.{Scale}
use Rattle.oe_rows.specs.declared.keys.DistrictKey.{DistrictKey}
use Rattle.oe_rows.specs.declared.keys.CustomerKey.{CustomerKey}
use Rattle.oe_rows.specs.declared.keys.HistoryKey.{HistoryKey}
use Rattle.oe_rows.specs.declared.keys.NewOrderKey.{NewOrderKey}
use Rattle.oe_rows.specs.declared.keys.OrderKey.{OrderKey}
use Rattle.oe_rows.specs.declared.keys.OrderLineKey.{OrderLineKey}
use Rattle.oe_rows.specs.declared.keys.StockKey.{StockKey}
use Rattle.oe_rows.specs.declared.orders.NewOrder.{NewOrder}
use Rattle.oe_model.specs.Keys.{district_of_customer, district_of_new_order, district_of_order, order_of_line}
use Rattle.oe_model.specs.Population.{counts_to, counted_customer, history_key, is_delivered, lines_of}

-- h is the district g
abbrev pub is_district : DistrictKey → DistrictKey → Bool
is_district g h = (h.warehouse == g.warehouse) && (h.district == g.district)

-- k is the order o
abbrev pub is_order : OrderKey → OrderKey → Bool
is_order o k = is_district (district_of_order o) (district_of_order k) && (k.order == o.order)

-- the customers of a district, with their HISTORY rows, its orders, those not yet delivered, and their lines
abbrev pub customers_in : DistrictKey → Scale → CustomerKey → Bool
customers_in g s k = is_district g (district_of_customer k) && counts_to s.customers k.customer

abbrev pub histories_in : DistrictKey → Scale → HistoryKey → Bool
histories_in g s k = customers_in g s (counted_customer s k.number) && eq_by_cmp history_cmp k
    (history_key s (counted_customer s k.number))

abbrev pub orders_in : DistrictKey → Scale → OrderKey → Bool
orders_in g s k = is_district g (district_of_order k) && counts_to s.customers k.order

abbrev pub new_orders_in : DistrictKey → Scale → NewOrderKey → Bool
new_orders_in g s k = (is_district g (district_of_new_order k) && counts_to s.customers k.order) && not
    (is_delivered s k.order)

abbrev pub lines_in : DistrictKey → Scale → OrderLineKey → Bool
lines_in g s k = orders_in g s (order_of_line k) && counts_to (lines_of k.order) k.number

-- a NEW-ORDER row, which has no column but its key's
abbrev pub no_columns : NewOrder
no_columns = record {}

-- a key of an order that is not delivered
abbrev pub is_new_order : Scale → NewOrderKey → NewOrderKey → Bool
is_new_order s own k = (is_district (district_of_new_order own) (district_of_new_order k) && (k.order == own.order)) &&
    not (is_delivered s k.order)

-- the lines of an order
abbrev pub lines_under : OrderKey → OrderLineKey → Bool
lines_under o k = is_order o (order_of_line k) && counts_to (lines_of k.order) k.number

-- the stocks of a warehouse
abbrev pub stocks_in : ℕ → Scale → StockKey → Bool
stocks_in w s k = (k.warehouse == w) && counts_to s.items k.item

-- districts are counted from 1 in the order of their keys
abbrev pub district_count : DistrictKey → ℕ
district_count h = (h.warehouse - 1) * 10 + h.district

-- a district of some warehouse
abbrev pub is_any_district : DistrictKey → Bool
is_any_district h = nat_le 1 h.warehouse && counts_to 10 h.district
