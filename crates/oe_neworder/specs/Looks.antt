-- What a stage of a New-Order reads, and what it comes to, by the model.
use Rattle.std.specs.Prelude.{◌≡◌, ℕ, ◌+◌, true, List, ◌∷◌, length, Option, None, Some, Result, Ok, Err}
use Rattle.oe_theory.specs.Machine.{Stop, Take, Fail, Go, Shared, Exclusive}
use Rattle.oe_rows.specs.declared.locks.Name.TheVariants as name
use Rattle.oe_requests.specs.declared.requests.RequestLine.{RequestLine}
use Rattle.oe_requests.specs.declared.requests.NewOrderRequest.{NewOrderRequest}
use Rattle.oe_requests.specs.declared.replies.LineReply.{LineReply}
use Rattle.oe_requests.specs.declared.refusals.Refusal.{Refusal}
use Rattle.oe_requests.specs.declared.refusals.Refusal.TheVariants.{NoCustomer, InvalidItem}
use Rattle.oe_change.specs.declared.writes.Write.{Write}
use Rattle.oe_change.specs.declared.writes.Write.TheVariants.{NextOrder, StockCounters}
use Rattle.oe_change.specs.Writes.{change_of}
use Rattle.oe_formulas.specs.declared.orders.Seen as formulas
use Rattle.oe_formulas.specs.Orders.{seen_by}
use Rattle.oe_model.specs.Keys.{customer_in}
use Rattle.oe_model.specs.Rows.{Rows}
use Rattle.oe_model.specs.Changes.{Change}
use Rattle.oe_model.specs.Positions.{Seen, NewOrderPosition, NewOrderWarehouse, NewOrderDistrict, NewOrderCustomer}
use Rattle.oe_model.specs.Positions.{NewOrderOrder, NewOrderStock, NewOrderLine, InNewOrder}
use Rattle.oe_model.specs.NewOrder.{new_order_ask, new_order_act}
use Rattle.oe_engine.specs.Stages.{is_failure}
use Rattle.oe_neworder.specs.Program.{filled_by}
use Rattle.oe_neworder.specs.declared.looks.Numbered.{Numbered}
use Rattle.oe_neworder.specs.declared.looks.Supply.{Supply}
use Rattle.oe_neworder.specs.declared.looks.Supply.TheVariants as supply

-- the stage makes the change that this write is of these rows, and the next stage is at that position
abbrev pub Writes : NewOrderRequest → Rows → NewOrderPosition → Write → NewOrderPosition → Type 0
Writes q r p w p' =
    (c : Change) × (change_of w r ≡ Some c) × (new_order_act q p r ≡ Go (Some c) (InNewOrder q p'))

-- the first stage, with W_TAX
abbrev pub ReadsTax : NewOrderRequest → Rows → Result ℕ Refusal → Type 0
ReadsTax q r (Ok w) =
    new_order_act q NewOrderWarehouse r ≡ Go None (InNewOrder q (NewOrderDistrict w))
ReadsTax q r (Err e) = (is_failure e ≡ true) × (new_order_act q NewOrderWarehouse r ≡ Fail e)

-- the second stage, with O_ID and D_TAX
abbrev pub TakesNumber : NewOrderRequest → Rows → Result Numbered Refusal → Type 0
TakesNumber q r (Ok n) =
    (w : ℕ) → Writes q r (NewOrderDistrict w)
    (NextOrder q.district n.next) (NewOrderCustomer n.order w n.tax)
TakesNumber q r (Err e) =
    (is_failure e ≡ true) × ((w : ℕ) → new_order_act q (NewOrderDistrict w) r ≡ Fail e)

-- the third stage: without the customer it stops before its lock
abbrev pub Sees : NewOrderRequest → Rows → NewOrderPosition → Option formulas.Seen → Type 0
Sees q r p None = new_order_ask q p r ≡ Stop NoCustomer
Sees q r p (Some y) =
    (new_order_ask q p r ≡ Take (name.Customer (customer_in q.district q.customer)) Shared)
    × (new_order_act q p r ≡ Go None (InNewOrder q (NewOrderOrder (seen_by y))))

-- the stage of the stock of line number n of an order: where its item is unused it stops before its lock
abbrev pub IsSupply : NewOrderRequest → Rows → RequestLine → ℕ → Supply → Type 0
IsSupply q r l n supply.Unused =
    (y : Seen) (before : List RequestLine) (done : List LineReply) (ls : List RequestLine)
    → new_order_ask q (NewOrderStock y before done (l ∷ ls)) r ≡ Stop InvalidItem
IsSupply q r l n (supply.Fails k e) =
    (is_failure e ≡ true)
    × ((y : Seen) (before : List RequestLine) (done : List LineReply) (ls : List RequestLine)
    → (new_order_ask q (NewOrderStock y before done (l ∷ ls)) r ≡ Take (name.Stock k) Exclusive)
    × (new_order_act q (NewOrderStock y before done (l ∷ ls)) r ≡ Fail e))
IsSupply q r l n (supply.Fills k c f) =
    (y : Seen) (before : List RequestLine) (done : List LineReply) (ls : List RequestLine)
    → length before + 1 ≡ n
    → (new_order_ask q (NewOrderStock y before done (l ∷ ls)) r ≡ Take (name.Stock k) Exclusive)
    × Writes q r (NewOrderStock y before done (l ∷ ls))
    (StockCounters k c) (NewOrderLine y before done l (filled_by f) ls)
