-- Consistency conditions 5 to 10 and 12 (clauses 3.3.2.5 to 3.3.2.10 and 3.3.2.12): what orders, their lines and
-- payments say of one another.
use Rattle.std.specs.Prelude.{◌≡◌, ◌↔◌, ℕ, ◌&&◌, pos, ◌+ℤ◌, ◌-ℤ◌, Bool, false, cond, Option, None, Some, is_some}
use Rattle.std.specs.Ordering.{eq_by_cmp}
use Rattle.std.specs.FinMap.{get}
use Rattle.oe_rows.specs.Key.{order_cmp, customer_cmp}
use Rattle.oe_rows.specs.declared.keys.WarehouseKey.{WarehouseKey}
use Rattle.oe_rows.specs.declared.keys.DistrictKey.{DistrictKey}
use Rattle.oe_rows.specs.declared.keys.CustomerKey.{CustomerKey}
use Rattle.oe_rows.specs.declared.keys.OrderKey.{OrderKey}
use Rattle.oe_rows.specs.declared.keys.OrderLineKey.{OrderLineKey}
use Rattle.oe_rows.specs.declared.warehouses.Warehouse.{Warehouse}
use Rattle.oe_rows.specs.declared.districts.District.{District}
use Rattle.oe_rows.specs.declared.customers.Customer.{Customer}
use Rattle.oe_rows.specs.declared.orders.Order.{Order}
use Rattle.oe_rows.specs.declared.orders.OrderLine.{OrderLine}
use Rattle.oe_model.specs.Keys.{district_of_order, customer_of_order, order_of_line}
use Rattle.oe_model.specs.Rows.{Rows}
use Rattle.oe_model.specs.Maps.{sum_of}
use Rattle.oe_model.specs.Conditions.{HasNewOrder, if_of_warehouse, if_of}

-- a number that counts for one order, or for one customer, and is 0 for others
abbrev pub if_of_order : OrderKey → OrderKey → ℕ → ℕ
if_of_order k j n = cond (eq_by_cmp order_cmp j k) n 0

abbrev pub if_of_customer : CustomerKey → CustomerKey → ℕ → ℕ
if_of_customer c d n = cond (eq_by_cmp customer_cmp d c) n 0

-- the number of an order's ORDER-LINE rows
abbrev pub lines_of_order : Rows → OrderKey → ℕ
lines_of_order r k = sum_of (λ l y. if_of_order k (order_of_line l) 1) r.order_lines

-- the sum of H_AMOUNT by H_W_ID
abbrev pub paid_in_warehouse : Rows → WarehouseKey → ℕ
paid_in_warehouse r w = sum_of (λ k y. if_of_warehouse w y.district y.amount) r.histories

-- the sum of H_AMOUNT by (H_W_ID, H_D_ID)
abbrev pub paid_in_district : Rows → DistrictKey → ℕ
paid_in_district r h = sum_of (λ k y. if_of h y.district y.amount) r.histories

-- the sum of H_AMOUNT by (H_C_W_ID, H_C_D_ID, H_C_ID)
abbrev pub paid_by : Rows → CustomerKey → ℕ
paid_by r c = sum_of (λ k y. if_of_customer c y.customer y.amount) r.histories

-- this ORDER row, where there is one, has the customer as its O_C_ID
abbrev pub is_order_of : CustomerKey → OrderKey → Option Order → Bool
is_order_of c k None = false
is_order_of c k (Some x) = eq_by_cmp customer_cmp (customer_of_order k x) c

-- OL_AMOUNT of a line with a delivery date, whose order is the customer's
abbrev pub amount_for : CustomerKey → OrderKey → Option Order → OrderLine → ℕ
amount_for c k x y = cond (is_order_of c k x && is_some y.delivery) y.amount 0

-- the sum of a customer's delivered OL_AMOUNT
abbrev pub delivered_for : Rows → CustomerKey → ℕ
delivered_for r c = sum_of (λ l y. amount_for c (order_of_line l) (get r.orders (order_of_line l)) y) r.order_lines

-- condition 5 of an order: it has no O_CARRIER_ID exactly where it has a NEW-ORDER row
abbrev pub Condition_5_at : Rows → OrderKey → Order → Type 0
Condition_5_at r k x = (x.carrier ≡ None) ↔ HasNewOrder r (district_of_order k) k.order

-- condition 6 of an order: O_OL_CNT is the number of its ORDER-LINE rows
abbrev pub Condition_6_at : Rows → OrderKey → Order → Type 0
Condition_6_at r k x = x.line_count ≡ lines_of_order r k

-- condition 7 of a line: it has no OL_DELIVERY_D exactly where its order has no O_CARRIER_ID
abbrev pub Condition_7_at : Rows → OrderLineKey → OrderLine → Type 0
Condition_7_at r l y = (x : Order) → get r.orders (order_of_line l) ≡ Some x → (y.delivery ≡ None) ↔ (x.carrier ≡ None)

-- condition 8 of a warehouse: W_YTD is the sum of H_AMOUNT paid in it
abbrev pub Condition_8_at : Rows → WarehouseKey → Warehouse → Type 0
Condition_8_at r w x = x.ytd ≡ paid_in_warehouse r w

-- condition 9 of a district: D_YTD is the sum of H_AMOUNT paid in it
abbrev pub Condition_9_at : Rows → DistrictKey → District → Type 0
Condition_9_at r h x = x.ytd ≡ paid_in_district r h

-- condition 10 of a customer: C_BALANCE is the sum of delivered OL_AMOUNT less the sum of H_AMOUNT
abbrev pub Condition_10_at : Rows → CustomerKey → Customer → Type 0
Condition_10_at r c x = x.account.balance ≡ pos (delivered_for r c) -ℤ pos (paid_by r c)

-- condition 12 of a customer: C_BALANCE and C_YTD_PAYMENT together are the sum of delivered OL_AMOUNT
abbrev pub Condition_12_at : Rows → CustomerKey → Customer → Type 0
Condition_12_at r c x = x.account.balance +ℤ pos x.account.ytd_payment ≡ pos (delivered_for r c)

-- each condition, of each row
abbrev pub Condition_5 : Rows → Type 0
Condition_5 r = (k : OrderKey) (x : Order) → get r.orders k ≡ Some x → Condition_5_at r k x

abbrev pub Condition_6 : Rows → Type 0
Condition_6 r = (k : OrderKey) (x : Order) → get r.orders k ≡ Some x → Condition_6_at r k x

abbrev pub Condition_7 : Rows → Type 0
Condition_7 r = (l : OrderLineKey) (y : OrderLine) → get r.order_lines l ≡ Some y → Condition_7_at r l y

abbrev pub Condition_8 : Rows → Type 0
Condition_8 r = (w : WarehouseKey) (x : Warehouse) → get r.warehouses w ≡ Some x → Condition_8_at r w x

abbrev pub Condition_9 : Rows → Type 0
Condition_9 r = (h : DistrictKey) (x : District) → get r.districts h ≡ Some x → Condition_9_at r h x

abbrev pub Condition_10 : Rows → Type 0
Condition_10 r = (c : CustomerKey) (x : Customer) → get r.customers c ≡ Some x → Condition_10_at r c x

abbrev pub Condition_12 : Rows → Type 0
Condition_12 r = (c : CustomerKey) (x : Customer) → get r.customers c ≡ Some x → Condition_12_at r c x

-- these seven conditions hold
pub record More (r : Rows) : Type 0 where
  pub condition_5 : Condition_5 r
  pub condition_6 : Condition_6 r
  pub condition_7 : Condition_7 r
  pub condition_8 : Condition_8 r
  pub condition_9 : Condition_9 r
  pub condition_10 : Condition_10 r
  pub condition_12 : Condition_12 r
