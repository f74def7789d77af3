-- Order-Status (clause 2.6) and Stock-Level (clause 2.8), on the tables of one moment.
use Rattle.std.specs.Prelude.{ℕ, suc, ◌+◌, ◌==◌, Bool, not, ◌&&◌, List, filter, map, find, count_by, Option, None, Some}
use Rattle.std.specs.Prelude.{nat_le}
use Rattle.std.specs.List.{list_any}
use Rattle.std.specs.Ordering.{eq_by_cmp}
use Rattle.std.specs.FinMap.{FinMap, get, entries}
use Rattle.oe_theory.specs.Machine.{Outcome, Here, Missing}
use Rattle.oe_rows.specs.Key.{district_cmp, customer_cmp, order_cmp, order_line_cmp}
use Rattle.oe_rows.specs.declared.keys.DistrictKey.{DistrictKey}
use Rattle.oe_rows.specs.declared.keys.CustomerKey.{CustomerKey}
use Rattle.oe_rows.specs.declared.keys.OrderKey.{OrderKey}
use Rattle.oe_rows.specs.declared.keys.OrderLineKey.{OrderLineKey}
use Rattle.oe_rows.specs.declared.keys.StockKey.{StockKey}
use Rattle.oe_rows.specs.declared.keys.Key.TheVariants as key
use Rattle.oe_rows.specs.declared.orders.Order.{Order}
use Rattle.oe_rows.specs.declared.orders.OrderLine.{OrderLine}
use Rattle.oe_rows.specs.declared.items.Stock.{Stock}
use Rattle.oe_requests.specs.declared.requests.StatusQuery.{StatusQuery}
use Rattle.oe_requests.specs.declared.requests.LevelQuery.{LevelQuery}
use Rattle.oe_requests.specs.declared.requests.Query.{Query}
use Rattle.oe_requests.specs.declared.requests.Query.TheVariants.{Status, Level}
use Rattle.oe_requests.specs.declared.replies.StatusLine.{StatusLine}
use Rattle.oe_requests.specs.declared.replies.OrderStatus.{OrderStatus}
use Rattle.oe_requests.specs.declared.replies.QueryReply.{QueryReply}
use Rattle.oe_requests.specs.declared.replies.QueryReply.TheVariants as told
use Rattle.oe_requests.specs.declared.refusals.Refusal.{Refusal}
use Rattle.oe_requests.specs.declared.refusals.Refusal.TheVariants.{NoSuchRow, NoCustomer}
use Rattle.oe_model.specs.Keys.{district_of_order, order_of_line, customer_in, customer_of_order}
use Rattle.oe_model.specs.Rows.{Rows}
use Rattle.oe_model.specs.Choice.{customer_meant}
use Rattle.oe_model.specs.Delivery.{lines_of}

-- go on where there is a value
abbrev pub reply_with : {A : Type 0} → Refusal → Option A → (A → Outcome QueryReply Refusal)
    → Outcome QueryReply Refusal
reply_with e None f = Missing e
reply_with e (Some x) f = f x

-- the customer's orders
abbrev pub orders_of : CustomerKey → FinMap order_cmp Order → List (OrderKey × Order)
orders_of k orders = filter (λ e. eq_by_cmp customer_cmp (customer_of_order e.0 e.1) k) (entries orders)

-- the customer's order with the largest O_ID
abbrev pub last_order : CustomerKey → FinMap order_cmp Order → Option (OrderKey × Order)
last_order k orders = find (λ e. not (list_any (λ g. nat_le (suc e.0.order) g.0.order) (orders_of k orders)))
    (orders_of k orders)

abbrev pub status_line : OrderLine → StatusLine
status_line x = record {
  supply = x.supply;
  item = x.item;
  quantity = x.quantity;
  amount = x.amount;
  delivery = x.delivery;
}

-- what Order-Status says of an order, with its lines by OL_NUMBER
abbrev pub status_of : FinMap order_line_cmp OrderLine → Option (OrderKey × Order) → Option OrderStatus
status_of lines None = None
status_of lines (Some e) =
    Some (record {
      number = e.0.order;
      entry = e.1.entry;
      carrier = e.1.carrier;
      lines = map (λ l. status_line l.1) (lines_of e.0 lines);
    })

abbrev pub order_status : StatusQuery → Rows → Outcome QueryReply Refusal
order_status q r =
    reply_with NoCustomer (customer_meant q.district q.customer r.customers) (λ c.
    reply_with NoCustomer (get r.customers (customer_in q.district c)) (λ x.
    Here (told.Status (record {
      customer = c;
      balance = x.account.balance;
      order = status_of r.order_lines (last_order (customer_in q.district c) r.orders);
    }))))

-- a line of the district's last 20 orders, where the next one has this number
abbrev pub is_recent : DistrictKey → ℕ → OrderLineKey → Bool
is_recent h next k = eq_by_cmp district_cmp (district_of_order (order_of_line k)) h && nat_le next (k.order + 20) &&
    nat_le (suc k.order) next

abbrev pub recent_lines : DistrictKey → ℕ → FinMap order_line_cmp OrderLine → List (OrderLineKey × OrderLine)
recent_lines h next lines = filter (λ e. is_recent h next e.0) (entries lines)

-- a STOCK row of the district's warehouse whose S_QUANTITY is below the threshold and whose item one of these lines
-- names
abbrev pub is_low : LevelQuery → List (OrderLineKey × OrderLine) → StockKey × Stock → Bool
is_low q lines e = (e.0.warehouse == q.district.warehouse) && nat_le (suc e.1.quantity) q.threshold && list_any
    (λ l. l.1.item == e.0.item) lines

-- there are as many as items, since a warehouse has one STOCK row of an item
abbrev pub stock_level : LevelQuery → Rows → Outcome QueryReply Refusal
stock_level q r =
    reply_with (NoSuchRow (key.District q.district)) (get r.districts q.district) (λ x.
    Here (told.Level (count_by (is_low q (recent_lines q.district x.next_order r.order_lines)) (entries r.stocks))))

abbrev pub answer_of : Query → Rows → Outcome QueryReply Refusal
answer_of (Status q) r = order_status q r
answer_of (Level q) r = stock_level q r
