-- What New-Order, Payment and Delivery keep beside the consistency conditions. The population had `initial` orders in
-- each district, the first ones, of which the last three tenths were not delivered (clause 4.3.3.1).
use Rattle.std.specs.Prelude.{◌≡◌, ◌↔◌, ℕ, ◌-◌, ◌*◌, ◌/◌, ◌≤◌, ◌<◌, ◌==◌, nat_lt, Bool, true, ◌&&◌, cond, Some, is_some}
use Rattle.std.specs.Ordering.{eq_by_cmp}
use Rattle.std.specs.FinMap.{get}
use Rattle.oe_rows.specs.Key.{customer_cmp, stock_cmp}
use Rattle.oe_rows.specs.declared.keys.DistrictKey.{DistrictKey}
use Rattle.oe_rows.specs.declared.keys.CustomerKey.{CustomerKey}
use Rattle.oe_rows.specs.declared.keys.NewOrderKey.{NewOrderKey}
use Rattle.oe_rows.specs.declared.keys.OrderKey.{OrderKey}
use Rattle.oe_rows.specs.declared.keys.OrderLineKey.{OrderLineKey}
use Rattle.oe_rows.specs.declared.keys.StockKey.{StockKey}
use Rattle.oe_rows.specs.declared.districts.District.{District}
use Rattle.oe_rows.specs.declared.customers.Customer.{Customer}
use Rattle.oe_rows.specs.declared.orders.NewOrder.{NewOrder}
use Rattle.oe_rows.specs.declared.orders.Order.{Order}
use Rattle.oe_rows.specs.declared.orders.OrderLine.{OrderLine}
use Rattle.oe_rows.specs.declared.items.Stock.{Stock}
use Rattle.oe_model.specs.Keys.{order_of_line, customer_of_order, supply_of_line}
use Rattle.oe_model.specs.Rows.{Rows}
use Rattle.oe_model.specs.Maps.{sum_of}
use Rattle.oe_model.specs.FurtherConditions.{if_of_customer}

-- the last order that the population had delivered
abbrev pub delivered_of : ℕ → ℕ
delivered_of initial = initial - (3 * initial) / 10

-- the STOCK row supplied this line, whose order the population did not have
abbrev pub is_ordered : ℕ → StockKey → OrderLineKey → OrderLine → Bool
is_ordered initial k l y = eq_by_cmp stock_cmp (supply_of_line y) k && nat_lt initial l.order

-- the sum of a figure of these lines
abbrev pub order_sum : (OrderLineKey → OrderLine → ℕ) → ℕ → Rows → StockKey → ℕ
order_sum figure initial r k = sum_of (λ l y. cond (is_ordered initial k l y) (figure l y) 0) r.order_lines

-- OL_QUANTITY; one line; one line where another warehouse than its order's supplied it
abbrev pub quantity_of : OrderLineKey → OrderLine → ℕ
quantity_of l y = y.quantity

abbrev pub one_line : OrderLineKey → OrderLine → ℕ
one_line l y = 1

abbrev pub one_remote : OrderLineKey → OrderLine → ℕ
one_remote l y = cond (y.supply == l.warehouse) 0 1

-- the number of a customer's HISTORY rows
abbrev pub payments_of : Rows → CustomerKey → ℕ
payments_of r c = sum_of (λ k y. if_of_customer c y.customer 1) r.histories

-- the order is the customer's, has an O_CARRIER_ID, and was not delivered by the population
abbrev pub is_delivered_to : ℕ → CustomerKey → OrderKey → Order → Bool
is_delivered_to initial c k x = eq_by_cmp customer_cmp (customer_of_order k x) c && is_some x.carrier
    && nat_lt (delivered_of initial) k.order

-- the number of such orders of a customer
abbrev pub deliveries_to : ℕ → Rows → CustomerKey → ℕ
deliveries_to initial r c = sum_of (λ k x. cond (is_delivered_to initial c k x) 1 0) r.orders

-- the order's own warehouse supplied each of its lines
abbrev pub AreHome : Rows → OrderKey → Type 0
AreHome r k = (l : OrderLineKey) (y : OrderLine) → get r.order_lines l ≡ Some y → order_of_line l ≡ k
    → y.supply ≡ k.warehouse

-- of a STOCK row: S_YTD is the sum of OL_QUANTITY of the lines that it supplied, where the population did not have
-- their order (clauses 2.4.2.2, 4.3.3.1)
abbrev pub Stock_ytd_at : ℕ → Rows → StockKey → Stock → Type 0
Stock_ytd_at initial r k x = x.ytd ≡ order_sum quantity_of initial r k

-- S_ORDER_CNT is the number of these lines
abbrev pub Stock_orders_at : ℕ → Rows → StockKey → Stock → Type 0
Stock_orders_at initial r k x = x.order_count ≡ order_sum one_line initial r k

-- S_REMOTE_CNT is the number of those of another warehouse's order
abbrev pub Stock_remote_at : ℕ → Rows → StockKey → Stock → Type 0
Stock_remote_at initial r k x = x.remote_count ≡ order_sum one_remote initial r k

-- of a customer: C_PAYMENT_CNT is the number of its HISTORY rows (clauses 2.5.2.2, 4.3.3.1)
abbrev pub Payment_count_at : Rows → CustomerKey → Customer → Type 0
Payment_count_at r c x = x.account.payment_count ≡ payments_of r c

-- C_DELIVERY_CNT is the number of its delivered orders that the population had not delivered (clauses 2.7.4.2, 4.3.3.1)
abbrev pub Delivery_count_at : ℕ → Rows → CustomerKey → Customer → Type 0
Delivery_count_at initial r c x = x.account.delivery_count ≡ deliveries_to initial r c

-- of an order: O_ALL_LOCAL is 1 exactly where its own warehouse supplied each of its lines (clause 2.4.2.2)
abbrev pub All_local_at : Rows → OrderKey → Order → Type 0
All_local_at r k x = (x.all_local ≡ true) ↔ AreHome r k

-- of a STOCK row: S_QUANTITY is 10 to 100, which the stock rule never leaves (clauses 2.4.2.2, 4.3.3.1)
abbrev pub Stock_quantity_at : Stock → Type 0
Stock_quantity_at x = (10 ≤ x.quantity) × (x.quantity ≤ 100)

-- each, of each row
abbrev pub Stock_ytd : ℕ → Rows → Type 0
Stock_ytd initial r = (k : StockKey) (x : Stock) → get r.stocks k ≡ Some x → Stock_ytd_at initial r k x

abbrev pub Stock_orders : ℕ → Rows → Type 0
Stock_orders initial r = (k : StockKey) (x : Stock) → get r.stocks k ≡ Some x → Stock_orders_at initial r k x

abbrev pub Stock_remote : ℕ → Rows → Type 0
Stock_remote initial r = (k : StockKey) (x : Stock) → get r.stocks k ≡ Some x → Stock_remote_at initial r k x

abbrev pub Payment_count : Rows → Type 0
Payment_count r = (c : CustomerKey) (x : Customer) → get r.customers c ≡ Some x → Payment_count_at r c x

abbrev pub Delivery_count : ℕ → Rows → Type 0
Delivery_count initial r = (c : CustomerKey) (x : Customer) → get r.customers c ≡ Some x
    → Delivery_count_at initial r c x

abbrev pub All_local : Rows → Type 0
All_local r = (k : OrderKey) (x : Order) → get r.orders k ≡ Some x → All_local_at r k x

abbrev pub Stock_quantity : Rows → Type 0
Stock_quantity r = (k : StockKey) (x : Stock) → get r.stocks k ≡ Some x → Stock_quantity_at x

-- these seven hold
pub record Movements (initial : ℕ) (r : Rows) : Type 0 where
  pub stock_ytd : Stock_ytd initial r
  pub stock_orders : Stock_orders initial r
  pub stock_remote : Stock_remote initial r
  pub payment_count : Payment_count r
  pub delivery_count : Delivery_count initial r
  pub all_local : All_local r
  pub stock_quantity : Stock_quantity r

-- the population's orders are numbered first: no district has one of these numbers still to give, and no order that
-- waits is one that the population had delivered
pub record IsNumberedFirst (initial : ℕ) (r : Rows) : Type 0 where
  pub next_orders : (h : DistrictKey) (x : District) → get r.districts h ≡ Some x → initial < x.next_order
  pub waiting : (k : NewOrderKey) (x : NewOrder) → get r.new_orders k ≡ Some x → delivered_of initial < k.order
