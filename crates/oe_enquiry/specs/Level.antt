-- The items that Stock-Level counts, as they are gathered (clause 2.8.2.2).
use Rattle.std.specs.Prelude.{ℕ, suc, ◌≡◌, ◌%◌, ◌==◌, Bool, true, false, cond, not, ◌&&◌, List, [], ◌∷◌, ◌++◌, map}
use Rattle.std.specs.Prelude.{get_or, nat_le, None, Some, option_map}
use Rattle.std.specs.List.{list_any, cons_option}
use Rattle.std.specs.FinMap.{FinMap, get}
use Rattle.oe_rows.specs.Key.{order_line_cmp}
use Rattle.oe_rows.specs.declared.keys.DistrictKey.{DistrictKey}
use Rattle.oe_rows.specs.declared.keys.OrderLineKey.{OrderLineKey}
use Rattle.oe_rows.specs.declared.keys.StockKey.{StockKey}
use Rattle.oe_rows.specs.declared.orders.OrderLine.{OrderLine}
use Rattle.oe_requests.specs.declared.requests.LevelQuery.{LevelQuery}
use Rattle.oe_model.specs.Rows.{Rows}
use Rattle.oe_model.specs.Queries.{recent_lines}
use Rattle.oe_rows_of.specs.Columns.{item_of, quantity_of}
use Rattle.oe_enquiry.specs.declared.items.Sold.{Sold}

abbrev pub stock_in : ℕ → ℕ → StockKey
stock_in w i = record { warehouse = w; item = i }

-- the district's warehouse has less of the item than the threshold
abbrev pub is_short : LevelQuery → Rows → ℕ → Bool
is_short q r i = elim (get r.stocks (stock_in q.district.warehouse i))
    [ None ↦ false | Some x ↦ nat_le (suc x.quantity) q.threshold ]

abbrev pub is_listed : List ℕ → ℕ → Bool
is_listed items i = list_any (λ j. j == i) items

-- each listed item has a mark at its remainder
abbrev pub AreMarked : List Bool → List ℕ → Type 0
AreMarked marks items = (i : ℕ) → is_listed items i ≡ true → get_or marks (i % 512) false ≡ true

-- the items that are listed, and behind them those that pass and are not listed yet
abbrev pub list_with : (ℕ → Bool) → List ℕ → List ℕ → List ℕ
list_with p items [] = items
list_with p items (i ∷ is) = list_with p (cond (not (is_listed items i) && p i) (items ++ i ∷ []) items) is

-- the items of the lines of a district's last 20 orders before one
abbrev pub items_sold : DistrictKey → ℕ → FinMap order_line_cmp OrderLine → List ℕ
items_sold h next lines = map (λ e. e.1.item) (recent_lines h next lines)

-- the rows stand at their keys
abbrev pub AreStanding : Rows → List (OrderLineKey × OrderLine) → Type 0
AreStanding r [] = Unit {0}
AreStanding r (e ∷ es) = (get r.order_lines e.0 ≡ Some e.1) × AreStanding r es

-- an item, with the quantity that its stock in a warehouse has now
abbrev pub sold_in : Rows → ℕ → ℕ → Sold
sold_in r w i = record { item = i; quantity = quantity_of (get r.stocks (stock_in w i)) }

-- the items of those of some lines that stood at a moment
abbrev pub sold_of : Rows → Rows → ℕ → List (OrderLineKey × OrderLine) → List Sold
sold_of now past w [] = []
sold_of now past w (e ∷ es) =
    cons_option (option_map (sold_in now w) (item_of (get past.order_lines e.0))) (sold_of now past w es)

-- it has the quantity that its stock in a warehouse has now
abbrev pub HasQuantity : Rows → ℕ → Sold → Type 0
HasQuantity r w s = s ≡ sold_in r w s.item

abbrev pub HaveQuantities : Rows → ℕ → List Sold → Type 0
HaveQuantities r w [] = Unit {0}
HaveQuantities r w (s ∷ ss) = HasQuantity r w s × HaveQuantities r w ss
