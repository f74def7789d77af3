-- Delivery of one district (clause 2.7): its whole effect, and its program, a stage at a time. The program serves a
-- transaction of that district alone and one of all ten districts.
use Rattle.std.specs.Prelude.{ℕ, ◌+◌, pos, ◌+ℤ◌, cond, List, [], ◌∷◌, map, sum_by, Option, None, Some}
use Rattle.std.specs.Ordering.{eq_by_cmp}
use Rattle.std.specs.FinMap.{FinMap, get, insert, remove, entries, retain_keys}
use Rattle.oe_theory.specs.Machine.{Exclusive, Ask, Plain, Take, Go, Ready, Hold}
use Rattle.oe_rows.specs.Key.{district_cmp, new_order_cmp, order_cmp, order_line_cmp}
use Rattle.oe_rows.specs.declared.keys.DistrictKey.{DistrictKey}
use Rattle.oe_rows.specs.declared.keys.OrderKey.{OrderKey}
use Rattle.oe_rows.specs.declared.keys.OrderLineKey.{OrderLineKey}
use Rattle.oe_rows.specs.declared.keys.Key.TheVariants as key
use Rattle.oe_rows.specs.declared.customers.Customer.{Customer}
use Rattle.oe_rows.specs.declared.orders.NewOrder.{NewOrder}
use Rattle.oe_rows.specs.declared.orders.Order.{Order}
use Rattle.oe_rows.specs.declared.orders.OrderLine.{OrderLine}
use Rattle.oe_rows.specs.declared.locks.Name.{Name}
use Rattle.oe_rows.specs.declared.locks.Name.TheVariants as name
use Rattle.oe_requests.specs.declared.requests.DeliveryRequest.{DeliveryRequest}
use Rattle.oe_requests.specs.declared.replies.DistrictDelivery.{DistrictDelivery}
use Rattle.oe_requests.specs.declared.replies.DistrictDelivery.TheVariants.{Delivered, Skipped}
use Rattle.oe_requests.specs.declared.replies.Reply.{Reply}
use Rattle.oe_requests.specs.declared.replies.Reply.TheVariants as reply
use Rattle.oe_requests.specs.declared.refusals.Column.{Column}
use Rattle.oe_requests.specs.declared.refusals.Column.TheVariants as column
use Rattle.oe_requests.specs.declared.refusals.Refusal.{Refusal}
use Rattle.oe_requests.specs.declared.refusals.Refusal.TheVariants.{NoSuchRow}
use Rattle.oe_model.specs.Keys.{district_of_new_order, order_of_line, customer_in, order_in, new_order_in, line_in}
use Rattle.oe_model.specs.Rows.{Rows}
use Rattle.oe_model.specs.Maps.{each}
use Rattle.oe_model.specs.Changes.{DeleteNewOrder, UpdateOrder, UpdateOrderLine, UpdateCustomer}
use Rattle.oe_model.specs.Locks.{hold}
use Rattle.oe_model.specs.Positions.{Position, DeliveryPosition, DeliveryQueue, DeliveryNothing, DeliveryOrder}
use Rattle.oe_model.specs.Positions.{DeliveryLine, DeliveryEnd, InDelivery}
use Rattle.oe_model.specs.Effects.{◌>>=◌, first_out, in_range, Doing, with_value, within}
use Rattle.oe_model.specs.Payment.{is_balance, is_count}

-- the district's orders that are not delivered
abbrev pub new_orders_of : DistrictKey → FinMap new_order_cmp NewOrder → FinMap new_order_cmp NewOrder
new_orders_of h queue = retain_keys queue (λ k. eq_by_cmp district_cmp (district_of_new_order k) h)

-- the least NO_O_ID of them, which is the first in key order
abbrev pub oldest : DistrictKey → FinMap new_order_cmp NewOrder → Option ℕ
oldest h queue = elim (entries (new_orders_of h queue)) [ [] ↦ None | e ∷ es ↦ Some e.0.order ]

-- the order's lines, by OL_NUMBER
abbrev pub lines_of : OrderKey → FinMap order_line_cmp OrderLine → List (OrderLineKey × OrderLine)
lines_of k lines = entries (retain_keys lines (λ l. eq_by_cmp order_cmp (order_of_line l) k))

-- the sum of their OL_AMOUNTs
abbrev pub worth : List (OrderLineKey × OrderLine) → ℕ
worth es = sum_by (λ e. e.1.amount) es

-- the rows after a delivery
abbrev pub with_carrier : ℕ → Order → Order
with_carrier carrier x = record x { carrier = Some carrier }

abbrev pub with_date : ℕ → OrderLine → OrderLine
with_date stamp x = record x { delivery = Some stamp }

abbrev pub delivered_to : ℕ → Customer → Customer
delivered_to sum x = record x {
  account = record x.account { balance = x.account.balance +ℤ pos sum; delivery_count = x.account.delivery_count + 1 };
}

-- the first column of such a customer that leaves its range
abbrev pub delivered_out : Customer → Option Column
delivered_out x = first_out
    ((column.Balance, is_balance x.account.balance) ∷ (column.DeliveryCount, is_count x.account.delivery_count) ∷ [])

-- what a district answers of an order that was delivered
abbrev pub delivery_of_order : ℕ → ℕ → ℕ → DistrictDelivery
delivery_of_order o c sum = Delivered (record { order = o; customer = c; sum = sum })

-- the whole effect on an order that is in the queue, with what the district answers
abbrev pub delivery_of : DeliveryRequest → ℕ → Rows → Option (Rows × DistrictDelivery)
delivery_of q o r = do
  order ← get r.orders (order_in q.district o)
  customer ← get r.customers (customer_in q.district order.customer)
  customer' ← in_range delivered_out (delivered_to (worth (lines_of (order_in q.district o) r.order_lines)) customer)
  Some (
    record r {
      new_orders = remove r.new_orders (new_order_in q.district o);
      orders = insert r.orders (order_in q.district o) (with_carrier q.carrier order);
      order_lines = each (λ k x. cond (eq_by_cmp order_cmp (order_of_line k) (order_in q.district o))
          (with_date q.stamp x)
          x) r.order_lines;
      customers = insert r.customers (customer_in q.district order.customer) customer';
    },
    delivery_of_order o order.customer (worth (lines_of (order_in q.district o) r.order_lines)),
  )

-- the whole effect in a district
abbrev pub district_effect : DeliveryRequest → Rows → Option (Rows × DistrictDelivery)
district_effect q r = elim (oldest q.district r.new_orders) [ None ↦ Some (r, Skipped) | Some o ↦ delivery_of q o r ]

-- the whole effect of a transaction of this district alone
abbrev pub delivery_effect : DeliveryRequest → Rows → Option (Rows × Reply)
delivery_effect q r = district_effect q r >>= λ e. Some (e.0, reply.Delivery e.1)

-- the transaction that a district's delivery is part of: its position where the district's is known, the one that it
-- goes on to once the district is done, and the reply that it is ready with at the district's end
pub record Setting : Type 0 where
  pub here : DeliveryPosition → Position
  pub next : DistrictDelivery → Position
  pub answer : DistrictDelivery → Reply

-- the end of a district
abbrev pub end_of : DistrictDelivery → DeliveryPosition
end_of Skipped = DeliveryNothing
end_of (Delivered y) = DeliveryEnd y.order y.customer y.sum

-- a transaction of this district alone
abbrev pub alone : DeliveryRequest → Setting
alone q = record { here = InDelivery q; next = λ d. InDelivery q (end_of d); answer = reply.Delivery }

-- the program: the lock of each stage
abbrev pub delivery_ask : DeliveryRequest → DeliveryPosition → Rows → Ask Name Refusal
delivery_ask q DeliveryQueue r = Take (name.Queue q.district) Exclusive
delivery_ask q DeliveryNothing r = Plain
delivery_ask q (DeliveryOrder o) r = Take (name.Order (order_in q.district o)) Exclusive
delivery_ask q (DeliveryLine o c (n ∷ ns) sum) r = Plain
delivery_ask q (DeliveryLine o c [] sum) r = Take (name.Customer (customer_in q.district c)) Exclusive
delivery_ask q (DeliveryEnd o c sum) r = Plain

-- the work of each stage
abbrev pub district_act : Setting → DeliveryRequest → DeliveryPosition → Rows → Doing
district_act t q DeliveryQueue r =
    elim (oldest q.district r.new_orders) [
      | None ↦ Go None (t.next Skipped)
      | Some o ↦ Go (Some (DeleteNewOrder (new_order_in q.district o))) (t.here (DeliveryOrder o))
    ]
district_act t q DeliveryNothing r = Ready (t.answer Skipped)
district_act t q (DeliveryOrder o) r =
    with_value (NoSuchRow (key.Order (order_in q.district o))) (get r.orders (order_in q.district o)) (λ x.
    Go (Some (UpdateOrder (order_in q.district o) (with_carrier q.carrier x)))
    (t.here (DeliveryLine o x.customer (map (λ e. e.0.number) (lines_of (order_in q.district o) r.order_lines)) 0)))
district_act t q (DeliveryLine o c (n ∷ ns) sum) r =
    with_value (NoSuchRow (key.OrderLine (line_in (order_in q.district o) n)))
    (get r.order_lines (line_in (order_in q.district o) n)) (λ x.
    Go (Some (UpdateOrderLine (line_in (order_in q.district o) n) (with_date q.stamp x)))
    (t.here (DeliveryLine o c ns (sum + x.amount))))
district_act t q (DeliveryLine o c [] sum) r =
    with_value (NoSuchRow (key.Customer (customer_in q.district c))) (get r.customers (customer_in q.district c)) (λ x.
    within (delivered_out (delivered_to sum x))
    (Go (Some (UpdateCustomer (customer_in q.district c) (delivered_to sum x))) (t.next (delivery_of_order o c sum))))
district_act t q (DeliveryEnd o c sum) r = Ready (t.answer (delivery_of_order o c sum))

abbrev pub delivery_act : DeliveryRequest → DeliveryPosition → Rows → Doing
delivery_act q p r = district_act (alone q) q p r

-- the locks that were taken before each stage
abbrev pub delivery_taken : DeliveryRequest → DeliveryPosition → List (Hold Name)
delivery_taken q position =
    let one = hold (name.Queue q.district) Exclusive ∷ [] in
    let two = λ (o : ℕ). hold (name.Order (order_in q.district o)) Exclusive ∷ one in
    elim position [
      | DeliveryQueue ↦ []
      | DeliveryNothing ↦ one
      | DeliveryOrder o ↦ one
      | DeliveryLine o c ns sum ↦ two o
      | DeliveryEnd o c sum ↦ hold (name.Customer (customer_in q.district c)) Exclusive ∷ two o
    ]
