-- How many lines an order has, and a district's last twenty: what the replies have to hold.
use Rattle.std.specs.Prelude.{◌≡◌, ◌≤◌, ℕ, length}
use Rattle.oe_theory.specs.Machine.{Here}
use Rattle.oe_rows.specs.declared.keys.DistrictKey.{DistrictKey}
use Rattle.oe_rows.specs.declared.keys.OrderKey.{OrderKey}
use Rattle.oe_requests.specs.declared.requests.LevelQuery.{LevelQuery}
use Rattle.oe_requests.specs.declared.replies.QueryReply.TheVariants as told
use Rattle.oe_model.specs.Rows.{Rows}
use Rattle.oe_model.specs.Delivery.{lines_of}
use Rattle.oe_model.specs.Queries.{recent_lines, stock_level}

-- an order has at most 15 lines (clause 2.4.1.3)
abbrev pub Orders_are_short : Rows → Type 0
Orders_are_short r = (k : OrderKey) → length (lines_of k r.order_lines) ≤ 15

-- a district's last 20 orders have at most 300, whatever number the next one has
abbrev pub Recent_are_few : Rows → Type 0
Recent_are_few r = (h : DistrictKey) (next : ℕ) → length (recent_lines h next r.order_lines) ≤ 300

-- Stock-Level counts at most 300 items (clause 2.8.2.2)
abbrev pub Levels_are_small : Rows → Type 0
Levels_are_small r = (q : LevelQuery) (n : ℕ) → stock_level q r ≡ Here (told.Level n) → n ≤ 300
