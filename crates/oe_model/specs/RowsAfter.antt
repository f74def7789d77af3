-- The tables after a transaction, row by row, in other words than its whole effect's; and what sums over rows come to.
use Rattle.std.specs.Prelude.{◌≡◌, ◌≢◌, ℕ, ◌+◌, ◌++◌, length, Option, Some, None, codes}
use Rattle.std.specs.declared.cmp.Ordering.{Ordering}
use Rattle.std.specs.FinMap.{FinMap, get, insert, empty}
use Rattle.oe_rows.specs.declared.keys.WarehouseKey.{WarehouseKey}
use Rattle.oe_rows.specs.declared.keys.DistrictKey.{DistrictKey}
use Rattle.oe_rows.specs.declared.keys.CustomerKey.{CustomerKey}
use Rattle.oe_rows.specs.declared.keys.HistoryKey.{HistoryKey}
use Rattle.oe_rows.specs.declared.keys.OrderKey.{OrderKey}
use Rattle.oe_rows.specs.declared.keys.OrderLineKey.{OrderLineKey}
use Rattle.oe_rows.specs.declared.keys.StockKey.{StockKey}
use Rattle.oe_rows.specs.declared.warehouses.Warehouse.{Warehouse}
use Rattle.oe_rows.specs.declared.districts.District.{District}
use Rattle.oe_rows.specs.declared.customers.Customer.{Customer}
use Rattle.oe_rows.specs.declared.histories.History.{History}
use Rattle.oe_rows.specs.declared.orders.Order.{Order}
use Rattle.oe_rows.specs.declared.orders.OrderLine.{OrderLine}
use Rattle.oe_requests.specs.declared.requests.RequestLine.{RequestLine}
use Rattle.oe_requests.specs.declared.requests.PaymentRequest.{PaymentRequest}
use Rattle.oe_requests.specs.declared.requests.NewOrderRequest.{NewOrderRequest}
use Rattle.oe_requests.specs.declared.requests.DeliveryRequest.{DeliveryRequest}
use Rattle.oe_requests.specs.declared.replies.Reply.{Reply}
use Rattle.oe_model.specs.Keys.{warehouse_of_district, customer_in, customer_of_order, order_in, new_order_in}
use Rattle.oe_model.specs.Keys.{order_of_line}
use Rattle.oe_model.specs.Lists.{IsAmong}
use Rattle.oe_model.specs.Rows.{Rows}
use Rattle.oe_model.specs.Choice.{customer_meant}
use Rattle.oe_model.specs.Payment.{paid_customer, payment_effect}
use Rattle.oe_model.specs.NewOrder.{stock_of, order_row, new_order_effect}
use Rattle.oe_model.specs.Delivery.{oldest, lines_of, worth, delivered_to, delivery_effect}
use Rattle.oe_model.specs.FurtherConditions.{lines_of_order, paid_in_warehouse, paid_in_district, paid_by}
use Rattle.oe_model.specs.FurtherConditions.{delivered_for}

-- a table has this row at the key, and its other rows are as they were
pub record HasOnly {K X : Type 0} {R : K → K → Ordering} (k : K) (x : Option X) (before after : FinMap R X)
    : Type 0 where
  pub at : get after k ≡ x
  pub others : (j : K) → j ≢ k → get after j ≡ get before j

-- the tables after a payment that is transaction k of terminal t (clause 2.5.2.2)
pub record IsPaid (t k : ℕ) (q : PaymentRequest) (r after : Rows) : Type 0 where
  -- W_YTD and D_YTD rise by the amount
  pub warehouse : Warehouse
  pub warehouse_at : get r.warehouses (warehouse_of_district q.district) ≡ Some warehouse
  pub warehouses : HasOnly (warehouse_of_district q.district)
      (Some (record warehouse { ytd = warehouse.ytd + q.amount })) r.warehouses after.warehouses
  pub district : District
  pub district_at : get r.districts q.district ≡ Some district
  pub districts : HasOnly q.district (Some (record district { ytd = district.ytd + q.amount }))
      r.districts after.districts
  -- the customer that is chosen pays
  pub number : ℕ
  pub choice : customer_meant q.customer_district q.customer r.customers ≡ Some number
  pub customer : Customer
  pub customer_at : get r.customers (customer_in q.customer_district number) ≡ Some customer
  pub customers : HasOnly (customer_in q.customer_district number) (Some (paid_customer number q customer))
      r.customers after.customers
  -- a HISTORY row comes in, with both names in H_DATA
  pub histories : HasOnly (record { terminal = t; number = k; ordinal = 1 }) (Some (record {
    customer = customer_in q.customer_district number;
    district = q.district;
    date = q.stamp;
    amount = q.amount;
    «data» = warehouse.name ++ codes "    " ++ district.name;
  })) r.histories after.histories
  pub kept : (after.new_orders ≡ r.new_orders) × (after.orders ≡ r.orders) × (after.order_lines ≡ r.order_lines)
      × (after.items ≡ r.items) × (after.stocks ≡ r.stocks)

-- the tables after an order (clause 2.4.2.2)
pub record IsOrdered (q : NewOrderRequest) (r after : Rows) : Type 0 where
  -- D_NEXT_O_ID rises by 1
  pub district : District
  pub district_at : get r.districts q.district ≡ Some district
  pub districts : HasOnly q.district (Some (record district { next_order = district.next_order + 1 }))
      r.districts after.districts
  -- an ORDER row comes in, and a NEW-ORDER row
  pub orders : HasOnly (order_in q.district district.next_order) (Some (record {
    customer = q.customer;
    entry = q.stamp;
    carrier = None;
    line_count = length q.lines;
    all_local = (order_row q).all_local;
  })) r.orders after.orders
  pub new_orders : HasOnly (new_order_in q.district district.next_order) (Some (record {}))
      r.new_orders after.new_orders
  -- lines of other orders stay, and so does a STOCK row of which no line asks
  pub order_lines : (k : OrderLineKey) → order_of_line k ≢ order_in q.district district.next_order
      → get after.order_lines k ≡ get r.order_lines k
  pub stocks : (k : StockKey) → ((l : RequestLine) → IsAmong l q.lines → stock_of l ≢ k)
      → get after.stocks k ≡ get r.stocks k
  pub kept : (after.warehouses ≡ r.warehouses) × (after.customers ≡ r.customers) × (after.histories ≡ r.histories)
      × (after.items ≡ r.items)

-- the tables after the delivery of order o (clause 2.7.4.2)
pub record IsDelivered (q : DeliveryRequest) (o : ℕ) (r after : Rows) : Type 0 where
  -- the ORDER row gets the carrier
  pub order : Order
  pub order_at : get r.orders (order_in q.district o) ≡ Some order
  pub orders : HasOnly (order_in q.district o) (Some (record order { carrier = Some q.carrier })) r.orders after.orders
  -- its NEW-ORDER row goes
  pub new_orders : HasOnly (new_order_in q.district o) None r.new_orders after.new_orders
  -- the sum of its lines is paid to the customer that it names
  pub customer : Customer
  pub customer_at : get r.customers (customer_in q.district order.customer) ≡ Some customer
  pub customers : HasOnly (customer_in q.district order.customer)
      (Some (delivered_to (worth (lines_of (order_in q.district o) r.order_lines)) customer))
      r.customers after.customers
  pub kept : (after.warehouses ≡ r.warehouses) × (after.districts ≡ r.districts) × (after.histories ≡ r.histories)
      × (after.items ≡ r.items) × (after.stocks ≡ r.stocks)

abbrev pub Payment_leaves : Type 0
Payment_leaves = (t k : ℕ) (q : PaymentRequest) (r after : Rows) (y : Reply)
    → payment_effect t k q r ≡ Some (after, y) → IsPaid t k q r after

abbrev pub Order_leaves : Type 0
Order_leaves = (q : NewOrderRequest) (r after : Rows) (y : Reply)
    → new_order_effect q r ≡ Some (after, y) → IsOrdered q r after

abbrev pub Delivery_leaves : Type 0
Delivery_leaves = (q : DeliveryRequest) (r after : Rows) (y : Reply) (o : ℕ) → oldest q.district r.new_orders ≡ Some o
    → delivery_effect q r ≡ Some (after, y) → IsDelivered q o r after

-- a sum rises by n with a row of its own, and stays with any other
abbrev pub Rises : Type 0 → ℕ → ℕ → ℕ → Type 0
Rises Own n before after = (Own → after ≡ before + n) × ((Own → ⊥) → after ≡ before)

-- a delivered line of one of the customer's orders
pub record IsDeliveredFor (r : Rows) (c : CustomerKey) (l : OrderLineKey) (y : OrderLine) : Type 0 where
  pub order : Order
  pub order_at : get r.orders (order_of_line l) ≡ Some order
  pub own : customer_of_order (order_of_line l) order ≡ c
  pub delivered : y.delivery ≢ None

-- the sums of conditions 6 to 10 and 12 are 0 where there is no row, and with a row more rise by what it counts for
pub record Sums_are_exact : Type 0 where
  pub no_lines : (r : Rows) → r.order_lines ≡ empty → (k : OrderKey) (c : CustomerKey)
      → (lines_of_order r k ≡ 0) × (delivered_for r c ≡ 0)
  pub no_histories : (r : Rows) → r.histories ≡ empty → (w : WarehouseKey) (h : DistrictKey) (c : CustomerKey)
      → (paid_in_warehouse r w ≡ 0) × (paid_in_district r h ≡ 0) × (paid_by r c ≡ 0)
  pub line : (r : Rows) (l : OrderLineKey) (y : OrderLine) → get r.order_lines l ≡ None → (k : OrderKey)
      → Rises (order_of_line l ≡ k) 1 (lines_of_order r k)
      (lines_of_order (record r { order_lines = insert r.order_lines l y }) k)
  pub delivered : (r : Rows) (l : OrderLineKey) (y : OrderLine) → get r.order_lines l ≡ None → (c : CustomerKey)
      → Rises (IsDeliveredFor r c l y) y.amount (delivered_for r c)
      (delivered_for (record r { order_lines = insert r.order_lines l y }) c)
  pub by_warehouse : (r : Rows) (k : HistoryKey) (y : History) → get r.histories k ≡ None → (w : WarehouseKey)
      → Rises (warehouse_of_district y.district ≡ w) y.amount (paid_in_warehouse r w)
      (paid_in_warehouse (record r { histories = insert r.histories k y }) w)
  pub by_district : (r : Rows) (k : HistoryKey) (y : History) → get r.histories k ≡ None → (h : DistrictKey)
      → Rises (y.district ≡ h) y.amount (paid_in_district r h)
      (paid_in_district (record r { histories = insert r.histories k y }) h)
  pub by_customer : (r : Rows) (k : HistoryKey) (y : History) → get r.histories k ≡ None → (c : CustomerKey)
      → Rises (y.customer ≡ c) y.amount (paid_by r c)
      (paid_by (record r { histories = insert r.histories k y }) c)
