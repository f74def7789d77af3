-- New-Order (clause 2.4): its whole effect, and its program, a stage at a time.
use Rattle.std.specs.Prelude.{ℕ, ◌+◌, ◌-◌, ◌*◌, ◌==◌, cond, ◌&&◌, List, [], ◌∷◌, ◌++◌, map}
use Rattle.std.specs.Prelude.{length, fold, get_or, Option, None, Some, nat_le, codes}
use Rattle.std.specs.List.{list_all}
use Rattle.std.specs.Ordering.{eq_by_cmp}
use Rattle.std.specs.FinMap.{FinMap, get, insert}
use Rattle.oe_theory.specs.Machine.{Shared, Exclusive, Ask, Stop, Plain, Take, Go, Ready, Hold}
use Rattle.oe_values.specs.Text.{occurs_in}
use Rattle.oe_rows.specs.Credit.{order_total}
use Rattle.oe_rows.specs.Key.{item_cmp, stock_cmp}
use Rattle.oe_rows.specs.declared.keys.OrderKey.{OrderKey}
use Rattle.oe_rows.specs.declared.keys.OrderLineKey.{OrderLineKey}
use Rattle.oe_rows.specs.declared.keys.StockKey.{StockKey}
use Rattle.oe_rows.specs.declared.keys.Key.TheVariants as key
use Rattle.oe_rows.specs.declared.warehouses.Warehouse.{Warehouse}
use Rattle.oe_rows.specs.declared.districts.District.{District}
use Rattle.oe_rows.specs.declared.customers.Customer.{Customer}
use Rattle.oe_rows.specs.declared.orders.NewOrder.{NewOrder}
use Rattle.oe_rows.specs.declared.orders.Order.{Order}
use Rattle.oe_rows.specs.declared.orders.OrderLine.{OrderLine}
use Rattle.oe_rows.specs.declared.items.Item.{Item}
use Rattle.oe_rows.specs.declared.items.Stock.{Stock}
use Rattle.oe_rows.specs.declared.locks.Name.{Name}
use Rattle.oe_rows.specs.declared.locks.Name.TheVariants as name
use Rattle.oe_requests.specs.declared.requests.RequestLine.{RequestLine}
use Rattle.oe_requests.specs.declared.requests.NewOrderRequest.{NewOrderRequest}
use Rattle.oe_requests.specs.declared.replies.Brand.{Brand}
use Rattle.oe_requests.specs.declared.replies.Brand.TheVariants.{Original, Generic}
use Rattle.oe_requests.specs.declared.replies.LineReply.{LineReply}
use Rattle.oe_requests.specs.declared.replies.NewOrderReply.{NewOrderReply}
use Rattle.oe_requests.specs.declared.replies.Reply.{Reply}
use Rattle.oe_requests.specs.declared.replies.Reply.TheVariants as reply
use Rattle.oe_requests.specs.declared.refusals.Column.{Column}
use Rattle.oe_requests.specs.declared.refusals.Column.TheVariants as column
use Rattle.oe_requests.specs.declared.refusals.Refusal.{Refusal}
use Rattle.oe_requests.specs.declared.refusals.Refusal.TheVariants.{NoSuchRow, NoCustomer, InvalidItem}
use Rattle.oe_model.specs.Keys.{warehouse_of_district, customer_in, order_in, new_order_in, line_in}
use Rattle.oe_model.specs.Rows.{Rows}
use Rattle.oe_model.specs.Maps.{each, with_all}
use Rattle.oe_model.specs.Changes.{InsertNewOrder, InsertOrder, InsertOrderLine, UpdateDistrict, UpdateStock}
use Rattle.oe_model.specs.Locks.{hold}
use Rattle.oe_model.specs.Positions.{Seen, Filled, NewOrderPosition, NewOrderWarehouse, NewOrderDistrict}
use Rattle.oe_model.specs.Positions.{NewOrderCustomer, NewOrderOrder, NewOrderQueue, NewOrderStock, NewOrderLine}
use Rattle.oe_model.specs.Positions.{InNewOrder}
use Rattle.oe_model.specs.Effects.{◌>>=◌, first_out, in_range, Doing, with_value, within}
use Rattle.oe_model.specs.Payment.{is_count}

-- the stock rule (clause 2.4.2.2): a stock row after n of its item were ordered from a district of this warehouse
abbrev pub stock_after : ℕ → StockKey → Stock → ℕ → Stock
stock_after home k x n = record x {
  quantity = cond (nat_le (n + 10) x.quantity) (x.quantity - n) (x.quantity + 91 - n);
  ytd = x.ytd + n;
  order_count = x.order_count + 1;
  remote_count = cond (k.warehouse == home) x.remote_count (x.remote_count + 1);
}

-- the stock row that a line of a request asks of
abbrev pub stock_of : RequestLine → StockKey
stock_of l = record { warehouse = l.supply; item = l.item }

-- the quantities that these lines ask of a stock row, in line order
abbrev pub quantities_for : StockKey → List RequestLine → List ℕ
quantities_for k [] = []
quantities_for k (l ∷ ls) = cond (eq_by_cmp stock_cmp k (stock_of l)) (l.quantity ∷ quantities_for k ls)
    (quantities_for k ls)

-- a stock row after these lines
abbrev pub after_lines : ℕ → List RequestLine → StockKey → Stock → Stock
after_lines home ls k x = fold (stock_after home k) x (quantities_for k ls)

-- the first column of a stock row that leaves its range
abbrev pub stock_out : Stock → Option Column
stock_out x =
    first_out ((column.StockYtd, nat_le x.ytd 99999999) ∷ (column.OrderCount, is_count x.order_count)
    ∷ (column.RemoteCount, is_count x.remote_count) ∷ [])

-- the item of this number; one past I_ID's range is unused (clause 2.4.1.5)
abbrev pub item_at : ℕ → FinMap item_cmp Item → Option Item
item_at n items = cond (nat_le n 100000) (get items (record { item = n })) None

-- B where I_DATA and S_DATA both have ORIGINAL, else G (clause 2.4.2.2)
abbrev pub brand : Item → Stock → Brand
brand item stock = cond (occurs_in (codes "ORIGINAL") item.data && occurs_in (codes "ORIGINAL") stock.data) Original
    Generic

-- line n, with its stock row after the line
abbrev pub fill : NewOrderRequest → ℕ → RequestLine → Item → Stock → Filled
fill q n l item stock = record {
  number = n;
  row = record {
    item = l.item;
    supply = l.supply;
    delivery = None;
    quantity = l.quantity;
    amount = l.quantity * item.price;
    dist_info = get_or stock.dist_info (q.district.district - 1) [];
  };
  reply = record { brand = brand item stock; quantity = stock.quantity; amount = l.quantity * item.price };
}

-- the line after the lines before it; none where its item is unused or a column of its stock row would leave its range
abbrev pub line_filled_from : NewOrderRequest → Rows → List RequestLine → RequestLine → Option Filled
line_filled_from q r before l = do
  item ← item_at l.item r.items
  stock ← get r.stocks (stock_of l)
  stock' ← in_range stock_out (after_lines q.district.warehouse (before ++ l ∷ []) (stock_of l) stock)
  Some (fill q (length before + 1) l item stock')

-- each line after the lines before it, and none where one of them is none
abbrev pub all_filled : NewOrderRequest → Rows → List RequestLine → List RequestLine → Option (List Filled)
all_filled q r before [] = Some []
all_filled q r before (l ∷ ls) = do
  f ← line_filled_from q r before l
  fs ← all_filled q r (before ++ l ∷ []) ls
  Some (f ∷ fs)

-- the ORDER row
abbrev pub order_row : NewOrderRequest → Order
order_row q = record {
  customer = q.customer;
  entry = q.stamp;
  carrier = None;
  line_count = length q.lines;
  all_local = list_all (λ l. l.supply == q.district.warehouse) q.lines;
}

abbrev pub new_order_row : NewOrder
new_order_row = record {}

abbrev pub with_next : District → District
with_next x = record x { next_order = x.next_order + 1 }

abbrev pub next_out : District → Option Column
next_out x = first_out ((column.NextOrder, nat_le x.next_order 10000000) ∷ [])

abbrev pub first_reads : Warehouse → District → Customer → Seen
first_reads warehouse district customer = record {
  order = district.next_order;
  warehouse_tax = warehouse.tax;
  district_tax = district.tax;
  discount = customer.account.discount;
  last = customer.name.last;
  credit = customer.credit;
}

abbrev pub ordered_reply : Seen → List LineReply → NewOrderReply
ordered_reply s lines = record {
  order = s.order;
  last = s.last;
  credit = s.credit;
  total = order_total (map (λ l. l.amount) lines) s.discount s.warehouse_tax s.district_tax;
  lines = lines;
}

abbrev pub replies_of : List Filled → List LineReply
replies_of fs = map (λ f. f.reply) fs

abbrev pub line_entries : OrderKey → List Filled → List (OrderLineKey × OrderLine)
line_entries k fs = map (λ f. (line_in k f.number, f.row)) fs

-- the whole effect
abbrev pub new_order_effect : NewOrderRequest → Rows → Option (Rows × Reply)
new_order_effect q r = do
  warehouse ← get r.warehouses (warehouse_of_district q.district)
  district ← get r.districts q.district
  district' ← in_range next_out (with_next district)
  customer ← get r.customers (customer_in q.district q.customer)
  fs ← all_filled q r [] q.lines
  Some (
    record r {
      districts = insert r.districts q.district district';
      orders = insert r.orders (order_in q.district district.next_order) (order_row q);
      new_orders = insert r.new_orders (new_order_in q.district district.next_order) new_order_row;
      order_lines = with_all (line_entries (order_in q.district district.next_order) fs) r.order_lines;
      stocks = each (after_lines q.district.warehouse q.lines) r.stocks;
    },
    reply.NewOrder (ordered_reply (first_reads warehouse district customer) (replies_of fs)),
  )

-- the program: the lock of each stage
abbrev pub new_order_ask : NewOrderRequest → NewOrderPosition → Rows → Ask Name Refusal
new_order_ask q NewOrderWarehouse r = Take (name.Warehouse (warehouse_of_district q.district)) Shared
new_order_ask q (NewOrderDistrict w) r = Take (name.District q.district) Exclusive
new_order_ask q (NewOrderCustomer o w d) r =
    elim (get r.customers (customer_in q.district q.customer)) [
      | None ↦ Stop NoCustomer
      | Some x ↦ Take (name.Customer (customer_in q.district q.customer)) Shared
    ]
new_order_ask q (NewOrderOrder s) r = Take (name.Order (order_in q.district s.order)) Exclusive
new_order_ask q (NewOrderQueue s) r = Take (name.Queue q.district) Exclusive
new_order_ask q (NewOrderStock s before done []) r = Plain
new_order_ask q (NewOrderStock s before done (l ∷ ls)) r =
    elim (item_at l.item r.items) [ None ↦ Stop InvalidItem | Some x ↦ Take (name.Stock (stock_of l)) Exclusive ]
new_order_ask q (NewOrderLine s before done l f ls) r = Plain

-- the work of each stage
abbrev pub new_order_act : NewOrderRequest → NewOrderPosition → Rows → Doing
new_order_act q NewOrderWarehouse r =
    with_value (NoSuchRow (key.Warehouse (warehouse_of_district q.district)))
    (get r.warehouses (warehouse_of_district q.district)) (λ x.
    Go None (InNewOrder q (NewOrderDistrict x.tax)))
new_order_act q (NewOrderDistrict w) r =
    with_value (NoSuchRow (key.District q.district)) (get r.districts q.district) (λ x.
    within (next_out (with_next x))
    (Go (Some (UpdateDistrict q.district (with_next x))) (InNewOrder q (NewOrderCustomer x.next_order w x.tax))))
new_order_act q (NewOrderCustomer o w d) r =
    with_value NoCustomer (get r.customers (customer_in q.district q.customer)) (λ x.
    Go None (InNewOrder q (NewOrderOrder (record {
      order = o;
      warehouse_tax = w;
      district_tax = d;
      discount = x.account.discount;
      last = x.name.last;
      credit = x.credit;
    }))))
new_order_act q (NewOrderOrder s) r = Go (Some (InsertOrder (order_in q.district s.order) (order_row q)))
    (InNewOrder q (NewOrderQueue s))
new_order_act q (NewOrderQueue s) r =
    Go (Some (InsertNewOrder (new_order_in q.district s.order) new_order_row))
    (InNewOrder q (NewOrderStock s [] [] q.lines))
new_order_act q (NewOrderStock s before done []) r = Ready (reply.NewOrder (ordered_reply s done))
new_order_act q (NewOrderStock s before done (l ∷ ls)) r =
    with_value InvalidItem (item_at l.item r.items) (λ item.
    with_value (NoSuchRow (key.Stock (stock_of l))) (get r.stocks (stock_of l)) (λ x.
    let x' : Stock = stock_after q.district.warehouse (stock_of l) x l.quantity in
    within (stock_out x')
    (Go (Some (UpdateStock (stock_of l) x'))
    (InNewOrder q (NewOrderLine s before done l (fill q (length before + 1) l item x') ls)))))
new_order_act q (NewOrderLine s before done l f ls) r =
    Go (Some (InsertOrderLine (line_in (order_in q.district s.order) f.number) f.row))
    (InNewOrder q (NewOrderStock s (before ++ l ∷ []) (done ++ f.reply ∷ []) ls))

-- the locks that were taken before each stage
abbrev pub stock_holds : List RequestLine → List (Hold Name)
stock_holds ls = map (λ l. hold (name.Stock (stock_of l)) Exclusive) ls

abbrev pub new_order_taken : NewOrderRequest → NewOrderPosition → List (Hold Name)
new_order_taken q position =
    let one = hold (name.Warehouse (warehouse_of_district q.district)) Shared ∷ [] in
    let two = hold (name.District q.district) Exclusive ∷ one in
    let three = hold (name.Customer (customer_in q.district q.customer)) Shared ∷ two in
    let four = λ (o : ℕ). hold (name.Order (order_in q.district o)) Exclusive ∷ three in
    let five = λ (o : ℕ). hold (name.Queue q.district) Exclusive ∷ four o in
    elim position [
      | NewOrderWarehouse ↦ []
      | NewOrderDistrict w ↦ one
      | NewOrderCustomer o w d ↦ two
      | NewOrderOrder s ↦ three
      | NewOrderQueue s ↦ four s.order
      | NewOrderStock s before done ls ↦ stock_holds before ++ five s.order
      | NewOrderLine s before done l f ls ↦ hold (name.Stock (stock_of l))
          Exclusive ∷ (stock_holds before ++ five s.order)
    ]
