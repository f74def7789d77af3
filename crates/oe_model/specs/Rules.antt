-- What the formulas of rows come to, in other words than their definitions.
use Rattle.std.specs.Prelude.{◌≡◌, ◌≢◌, ◌↔◌, ℕ, ◌+◌, ◌*◌, ◌≤◌, ◌<◌, pos, ◌+ℤ◌, true, List, [], ◌∷◌, ◌++◌, length, sum}
use Rattle.std.specs.Prelude.{None, Some, IsTrue, codes, ◌⊎◌, ◌/◌, count_by, not}
use Rattle.std.specs.List.{All}
use Rattle.std.specs.FinMap.{FinMap, get}
use Rattle.oe_theory.specs.Machine.{Here}
use Rattle.oe_theory.specs.World.{go_together}
use Rattle.oe_rows.specs.Credit.{credit_entry}
use Rattle.oe_rows.specs.Key.{customer_cmp}
use Rattle.oe_rows.specs.declared.keys.DistrictKey.{DistrictKey}
use Rattle.oe_rows.specs.declared.keys.CustomerKey.{CustomerKey}
use Rattle.oe_rows.specs.declared.keys.OrderKey.{OrderKey}
use Rattle.oe_rows.specs.declared.keys.OrderLineKey.{OrderLineKey}
use Rattle.oe_rows.specs.declared.keys.StockKey.{StockKey}
use Rattle.oe_rows.specs.declared.warehouses.Warehouse.{Warehouse}
use Rattle.oe_rows.specs.declared.districts.District.{District}
use Rattle.oe_rows.specs.declared.customers.Credit.TheVariants.{Good, Bad}
use Rattle.oe_rows.specs.declared.customers.Customer.{Customer}
use Rattle.oe_rows.specs.declared.orders.Order.{Order}
use Rattle.oe_rows.specs.declared.orders.OrderLine.{OrderLine}
use Rattle.oe_rows.specs.declared.items.Stock.{Stock}
use Rattle.oe_requests.specs.declared.requests.CustomerChoice.TheVariants.{LastName}
use Rattle.oe_rows.specs.declared.locks.Mode.{Mode}
use Rattle.oe_requests.specs.declared.requests.PaymentRequest.{PaymentRequest}
use Rattle.oe_requests.specs.declared.requests.LevelQuery.{LevelQuery}
use Rattle.oe_requests.specs.declared.replies.QueryReply.TheVariants as told
use Rattle.oe_requests.specs.declared.requests.RequestLine.{RequestLine}
use Rattle.oe_requests.specs.declared.requests.NewOrderRequest.{NewOrderRequest}
use Rattle.oe_requests.specs.declared.requests.RenameRequest.{RenameRequest}
use Rattle.oe_requests.specs.declared.requests.DeliveryRequest.{DeliveryRequest}
use Rattle.oe_requests.specs.declared.replies.Reply.{Reply}
use Rattle.oe_model.specs.Keys.{customer_in, customer_of_order, order_of_line, order_in, district_of_order}
use Rattle.oe_model.specs.Rows.{Rows}
use Rattle.oe_model.specs.Lists.{IsAmong, IsDistinct}
use Rattle.oe_model.specs.Locks.{mode_of, conflict}
use Rattle.oe_model.specs.Choice.{namesakes, comes_before, middle, customer_meant}
use Rattle.oe_model.specs.Payment.{paid_warehouse, paid_district, paid_customer}
use Rattle.oe_values.specs.Text.{occurs_in}
use Rattle.oe_model.specs.NewOrder.{stock_after, quantities_for, after_lines, order_row}
use Rattle.oe_model.specs.Delivery.{oldest, delivered_to, with_date, delivery_effect}
use Rattle.oe_model.specs.Rename.{with_new_name, rename_effect}
use Rattle.oe_model.specs.Queries.{last_order, stock_level}
use Rattle.oe_model.specs.Conditions.{HasNewOrder, IsLeast}

-- a payment (clause 2.5.2.2)
pub record Payment_is_exact : Type 0 where
  -- the amount goes from the balance to the year-to-date payment, and comes to the warehouse and the district
  pub balance : (c : ℕ) (q : PaymentRequest) (x : Customer)
      → (paid_customer c q x).account.balance +ℤ pos q.amount ≡ x.account.balance
  pub together : (c : ℕ) (q : PaymentRequest) (x : Customer)
      → (paid_customer c q x).account.balance +ℤ pos (paid_customer c q x).account.ytd_payment ≡ x.account.balance +ℤ
      pos x.account.ytd_payment
  pub count : (c : ℕ) (q : PaymentRequest) (x : Customer)
      → (paid_customer c q x).account.payment_count ≡ x.account.payment_count + 1
  pub warehouse : (q : PaymentRequest) (x : Warehouse) → (paid_warehouse q x).ytd ≡ q.amount + x.ytd
  pub district : (q : PaymentRequest) (x : District) → (paid_district q x).ytd ≡ q.amount + x.ytd
  -- the data of a good credit stays
  pub good : (c : ℕ) (q : PaymentRequest) (x : Customer) → x.credit ≡ Good → (paid_customer c q x).data ≡ x.data
  -- the data of a bad credit begins with the payment and goes on with the old data; what is cut off is past 500 bytes
  pub bad : (c : ℕ) (q : PaymentRequest) (x : Customer) → x.credit ≡ Bad
      → (cut : List ℕ)
      × (credit_entry (record { customer = customer_in q.customer_district c; district = q.district }) q.amount
      ++ x.data ≡ (paid_customer c q x).data ++ cut)
      × (length (paid_customer c q x).data ≤ 500) × ((cut ≡ []) ⊎ (length (paid_customer c q x).data ≡ 500))
  -- no other column changes
  pub others : (c : ℕ) (q : PaymentRequest) (x : Customer)
      → record (paid_customer c q x) {
        account = record (paid_customer c q x).account {
          balance = x.account.balance;
          ytd_payment = x.account.ytd_payment;
          payment_count = x.account.payment_count;
        };
        «data» = x.data;
      } ≡ x

-- a stock row after quantities that were asked of it: S_YTD rises by their sum, S_ORDER_CNT by their number, and
-- S_QUANTITY falls by their sum but for a multiple of 91
pub record IsSupplied (ns : List ℕ) (x y : Stock) : Type 0 where
  pub ytd : y.ytd ≡ x.ytd + sum ns
  pub orders : y.order_count ≡ x.order_count + length ns
  pub refills : ℕ
  pub quantity : y.quantity + sum ns ≡ x.quantity + 91 * refills
  pub texts : (y.dist_info ≡ x.dist_info) × (y.data ≡ x.data)

-- quantities of at most 10, as requests have them
abbrev pub AreSmall : List ℕ → Type 0
AreSmall [] = Unit {0}
AreSmall (n ∷ ns) = (n ≤ 10) × AreSmall ns

-- the stock rule (clause 2.4.2.2)
pub record Stock_is_exact : Type 0 where
  pub supplied_by : (home : ℕ) (ls : List RequestLine) (k : StockKey) (x : Stock) → AreSmall (quantities_for k ls)
      → IsSupplied (quantities_for k ls) x (after_lines home ls k x)
  -- S_REMOTE_CNT rises by the lines of another warehouse's districts
  pub home : (ls : List RequestLine) (k : StockKey) (x : Stock)
      → (after_lines k.warehouse ls k x).remote_count ≡ x.remote_count
  pub remote : (home : ℕ) (ls : List RequestLine) (k : StockKey) (x : Stock) → k.warehouse ≢ home
      → (after_lines home ls k x).remote_count ≡ x.remote_count + length (quantities_for k ls)
  -- 10 or more are left above a line's quantity, or 91 come in
  pub enough : (home n : ℕ) (k : StockKey) (x : Stock) → n + 10 ≤ x.quantity
      → (stock_after home k x n).quantity + n ≡ x.quantity
  pub refilled : (home n : ℕ) (k : StockKey) (x : Stock) → x.quantity < n + 10 → n ≤ 10
      → (stock_after home k x n).quantity + n ≡ x.quantity + 91

-- a text stands in another where something comes before and after it
pub record Text_occurs : Type 0 where
  pub found : (xs ys : List ℕ) → occurs_in xs ys ≡ true → (before : List ℕ)
      × ((after : List ℕ) × (ys ≡ before ++ (xs ++ after)))
  pub there : (xs before after : List ℕ) → occurs_in xs (before ++ (xs ++ after)) ≡ true

-- the order is local where each of its lines is supplied by its own warehouse
abbrev pub Order_is_local : Type 0
Order_is_local = (q : NewOrderRequest) → IsTrue (order_row q).all_local ↔ All (λ l. l.supply ≡ q.district.warehouse)
    q.lines

-- a delivery takes the district's least NO_O_ID, and none where there is no NEW-ORDER row
pub record Oldest_is_least : Type 0 where
  pub least : (r : Rows) (h : DistrictKey) (o : ℕ) → oldest h r.new_orders ≡ Some o → IsLeast (HasNewOrder r h) o
  pub none : (r : Rows) (h : DistrictKey) → oldest h r.new_orders ≡ None → (o : ℕ) → HasNewOrder r h o → ⊥

-- the balance rises by the sum of a delivery, and the count by one
pub record Delivery_is_exact : Type 0 where
  pub balance : (sum : ℕ) (x : Customer) → (delivered_to sum x).account.balance ≡ pos sum +ℤ x.account.balance
  pub count : (sum : ℕ) (x : Customer) → (delivered_to sum x).account.delivery_count ≡ x.account.delivery_count + 1
  pub others : (sum : ℕ) (x : Customer)
      → record (delivered_to sum x) {
        account = record (delivered_to sum x).account
            { balance = x.account.balance; delivery_count = x.account.delivery_count };
      } ≡ x
  -- each line of the order that was delivered is dated, and no other line changes
  pub lines : (q : DeliveryRequest) (r after : Rows) (y : Reply) (o : ℕ) (k : OrderLineKey) (x : OrderLine)
      → oldest q.district r.new_orders ≡ Some o → delivery_effect q r ≡ Some (after, y)
      → get r.order_lines k ≡ Some x
      → (order_of_line k ≡ order_in q.district o → get after.order_lines k ≡ Some (with_date q.stamp x))
      × (order_of_line k ≢ order_in q.district o → get after.order_lines k ≡ Some x)

-- a rename, which is none of the standard's transactions
pub record Rename_is_exact : Type 0 where
  pub last : (q : RenameRequest) (x : Customer) → (with_new_name q x).name.last ≡ q.last
  pub first : (q : RenameRequest) (x : Customer) → (with_new_name q x).name.first ≡ q.first
  -- no other column changes
  pub others : (q : RenameRequest) (x : Customer)
      → record (with_new_name q x) {
        name = record (with_new_name q x).name { last = x.name.last; first = x.name.first };
      } ≡ x
  -- nor does another customer
  pub alone : (q : RenameRequest) (r after : Rows) (y : Reply) (k : CustomerKey) → rename_effect q r ≡ Some (after, y)
      → k ≢ q.customer → get after.customers k ≡ get r.customers k

-- the customer that is chosen by last name has that C_LAST, and with those before it, by C_FIRST and C_ID, is half of
-- the district's customers with that name, rounded up; and one is chosen where there is any (clause 2.5.2.2)
pub record Name_is_middle : Type 0 where
  pub some : (m : FinMap customer_cmp Customer) (h : DistrictKey) (last : List ℕ) (c : ℕ)
      → customer_meant h (LastName last) m ≡ Some c
      → (x : Customer) × (get m (customer_in h c) ≡ Some x) × (x.name.last ≡ last)
      × (count_by (λ y. comes_before y (x.name.first, c)) (namesakes h last m) + 1 ≡ (length (namesakes h last m) + 1)
      / 2)
  pub none : (m : FinMap customer_cmp Customer) (h : DistrictKey) (last : List ℕ) (c : ℕ) (x : Customer)
      → customer_meant h (LastName last) m ≡ None
      → get m (customer_in h c) ≡ Some x → x.name.last ≡ last → ⊥

-- an order of the customer, none of whose orders has a larger O_ID
pub record IsLastOrder (r : Rows) (k : CustomerKey) (e : OrderKey × Order) : Type 0 where
  pub there : get r.orders e.0 ≡ Some e.1
  pub own : customer_of_order e.0 e.1 ≡ k
  pub last : (j : OrderKey) (y : Order) → get r.orders j ≡ Some y → customer_of_order j y ≡ k → j.order ≤ e.0.order

-- Order-Status tells of such an order, where the customer has any (clause 2.6.2.2)
pub record Order_is_last : Type 0 where
  pub some : (r : Rows) (k : CustomerKey) (e : OrderKey × Order) → last_order k r.orders ≡ Some e → IsLastOrder r k e
  pub none : (r : Rows) (k : CustomerKey) → last_order k r.orders ≡ None
      → (j : OrderKey) (y : Order) → get r.orders j ≡ Some y → customer_of_order j y ≡ k → ⊥

-- an item that Stock-Level counts: a line of the district's last 20 orders names it, and the district's warehouse has
-- less of it than the threshold
pub record IsLow (q : LevelQuery) (r : Rows) (next i : ℕ) : Type 0 where
  pub line_key : OrderLineKey
  pub line : OrderLine
  pub line_at : get r.order_lines line_key ≡ Some line
  pub district : district_of_order (order_of_line line_key) ≡ q.district
  pub first : next ≤ line_key.order + 20
  pub last : line_key.order < next
  pub item : line.item ≡ i
  pub stock : Stock
  pub stock_at : get r.stocks (record { warehouse = q.district.warehouse; item = i }) ≡ Some stock
  pub low : stock.quantity < q.threshold

-- the items are those, each once
pub record AreLow (q : LevelQuery) (r : Rows) (next : ℕ) (items : List ℕ) : Type 0 where
  pub distinct : IsDistinct items
  pub each : (i : ℕ) → IsAmong i items → IsLow q r next i
  pub all : (i : ℕ) → IsLow q r next i → IsAmong i items

-- Stock-Level tells how many distinct items are low (clause 2.8.2.2)
abbrev pub Level_is_exact : Type 0
Level_is_exact =
    (q : LevelQuery) (r : Rows) (x : District) → get r.districts q.district ≡ Some x
    → (items : List ℕ) × (stock_level q r ≡ Here (told.Level (length items))) × AreLow q r x.next_order items

-- the modes conflict as the theory's modes do
abbrev pub Modes_conflict : Type 0
Modes_conflict = (a b : Mode) → go_together (mode_of a) (Some (mode_of b)) ≡ not (conflict a b)

-- values worked out by hand
pub record Worked : Type 0 where
  -- 24 of an item, and 10 and then 5 ordered
  pub first : (k : StockKey) (x : Stock) → (stock_after 1 k (record x { quantity = 24 }) 10).quantity ≡ 14
  pub second : (k : StockKey) (x : Stock)
      → (stock_after 1 k (stock_after 1 k (record x { quantity = 24 }) 10) 5).quantity
      ≡ 100
  -- of four namesakes the second is taken, of three the second, of two the first
  pub of_four : middle ((codes "B", 7) ∷ (codes "A", 9) ∷ (codes "B", 3) ∷ (codes "C", 1) ∷ []) ≡ Some 3
  pub of_three : middle ((codes "F09999", 1) ∷ (codes "F08999", 1001) ∷ (codes "F07999", 2001) ∷ []) ≡ Some 1001
  pub of_two : middle ((codes "F09998", 2) ∷ (codes "F08998", 1002) ∷ []) ≡ Some 1002
  pub of_none : middle [] ≡ None
