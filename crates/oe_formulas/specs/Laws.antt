-- What the formulas of an order come to, in other words than their definitions.
use Rattle.std.specs.Prelude.{◌≡◌, ◌↔◌, ℕ, ◌+◌, ◌-◌, ◌*◌, ◌≤◌, ◌<◌, cond, List, [], ◌∷◌, length, sum, slice_get, None}
use Rattle.std.specs.Prelude.{Some}
use Rattle.std.specs.Int.{IsInRange}
use Rattle.std.specs.Ordering.{eq_by_cmp}
use Rattle.std.specs.FinMap.{FinMap}
use Rattle.oe_rows.specs.Credit.{order_total}
use Rattle.oe_rows.specs.Key.{order_cmp, order_line_cmp}
use Rattle.oe_rows.specs.declared.keys.OrderKey.{OrderKey}
use Rattle.oe_rows.specs.declared.keys.StockKey.{StockKey}
use Rattle.oe_rows.specs.declared.items.Item.{Item}
use Rattle.oe_rows.specs.declared.items.Stock.{Stock}
use Rattle.oe_rows.specs.declared.orders.OrderLine.{OrderLine}
use Rattle.oe_requests.specs.declared.requests.RequestLine.{RequestLine}
use Rattle.oe_requests.specs.declared.requests.NewOrderRequest.{NewOrderRequest}
use Rattle.oe_model.specs.Keys.{order_of_line}
use Rattle.oe_model.specs.Rows.{Rows}
use Rattle.oe_model.specs.Maps.{sum_of}
use Rattle.oe_model.specs.Positions.{Filled}
use Rattle.oe_model.specs.Rules.{AreSmall}
use Rattle.oe_model.specs.NewOrder.{stock_after, quantities_for, after_lines, all_filled, fill, order_row}
use Rattle.oe_model.specs.Delivery.{lines_of, worth}

-- the stock rule (clause 2.4.2.2)
pub record Stock_is_refilled : Type 0 where
  -- 91 come in exactly where less than 10 would be left
  pub exactly : (home n : ℕ) (k : StockKey) (x : Stock)
      → n ≤ 10 → ((stock_after home k x n).quantity + n ≡ x.quantity + 91) ↔ (x.quantity < n + 10)
  -- a quantity from 10 to 100 stays there, whatever the lines of an order ask for
  pub stays : (home : ℕ) (ls : List RequestLine) (k : StockKey) (x : Stock) → AreSmall (quantities_for k ls)
      → IsInRange 10 100 x.quantity → IsInRange 10 100 (after_lines home ls k x).quantity

-- the columns of an ORDER row
pub record Order_has_columns : Type 0 where
  pub customer : (q : NewOrderRequest) → (order_row q).customer ≡ q.customer
  pub entry : (q : NewOrderRequest) → (order_row q).entry ≡ q.stamp
  pub carrier : (q : NewOrderRequest) → (order_row q).carrier ≡ None
  pub line_count : (q : NewOrderRequest) → (order_row q).line_count ≡ length q.lines

-- f is the line l of the request, with OL_NUMBER n
pub record IsLine (n : ℕ) (l : RequestLine) (f : Filled) : Type 0 where
  pub number : f.number ≡ n
  pub item : f.row.item ≡ l.item
  pub supply : f.row.supply ≡ l.supply
  pub delivery : f.row.delivery ≡ None
  pub quantity : f.row.quantity ≡ l.quantity
  pub amount : f.reply.amount ≡ f.row.amount

-- the filled lines are these lines one by one, numbered from n on
abbrev pub AreLines : ℕ → List RequestLine → List Filled → Type 0
AreLines n [] [] = Unit {0}
AreLines n (l ∷ ls) (f ∷ fs) = IsLine n l f × AreLines (n + 1) ls fs
AreLines n [] (f ∷ fs) = ⊥
AreLines n (l ∷ ls) [] = ⊥

-- an order has a line for each line of its request, numbered from 1
abbrev pub Lines_are_numbered : Type 0
Lines_are_numbered =
    (q : NewOrderRequest) (r : Rows) (fs : List Filled) → all_filled q r [] q.lines ≡ Some fs
    → AreLines 1 q.lines fs

-- a line costs its quantity times I_PRICE, and has the stock's text for the order's district
pub record Line_has_columns : Type 0 where
  pub amount : (q : NewOrderRequest) (n : ℕ) (l : RequestLine) (item : Item) (stock : Stock)
      → (fill q n l item stock).row.amount ≡ l.quantity * item.price
  pub dist_info : (q : NewOrderRequest) (n : ℕ) (l : RequestLine) (item : Item) (stock : Stock)
      (info : List ℕ)
      → slice_get stock.dist_info (q.district.district - 1) ≡ Some info
      → (fill q n l item stock).row.dist_info ≡ info

-- what an order costs in hundred-millionths of a cent
abbrev pub exact_total : List ℕ → ℕ → ℕ → ℕ → ℕ
exact_total amounts discount warehouse_tax district_tax =
    sum amounts * (10000 - discount) * (10000 + warehouse_tax + district_tax)

-- the total is the nearest whole number of cents: not more than half a cent above, and less than half a cent below
pub record Total_is_nearest : Type 0 where
  pub above : (amounts : List ℕ) (c w d : ℕ)
      → order_total amounts c w d * 100_000_000 ≤ exact_total amounts c w d + 50_000_000
  pub below : (amounts : List ℕ) (c w d : ℕ)
      → exact_total amounts c w d < order_total amounts c w d * 100_000_000 + 50_000_000

-- a delivery's sum adds up the OL_AMOUNTs of all ORDER-LINE rows of the order (clause 2.7.4.2)
abbrev pub Delivery_sums_lines : Type 0
Delivery_sums_lines =
    (k : OrderKey) (lines : FinMap order_line_cmp OrderLine)
    → worth (lines_of k lines)
    ≡ sum_of (λ j x. cond (eq_by_cmp order_cmp (order_of_line j) k) x.amount 0) lines
