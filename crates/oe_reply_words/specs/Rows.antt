-- Which transactions change a row, by their requests and replies.
use Rattle.std.specs.Prelude.{ℕ, ◌==◌, ◌&&◌, Bool, false, List, [], ◌++◌, codes, decimal, Option, None, Some}
use Rattle.std.specs.Prelude.{if◌then◌else◌}
use Rattle.std.specs.List.{list_any}
use Rattle.std.specs.Ordering.{eq_by_cmp}
use Rattle.oe_rows.specs.Key.{customer_cmp}
use Rattle.oe_rows.specs.declared.keys.CustomerKey.{CustomerKey}
use Rattle.oe_rows.specs.declared.keys.DistrictKey.{DistrictKey}
use Rattle.oe_rows.specs.declared.keys.StockKey.{StockKey}
use Rattle.oe_rows.specs.declared.keys.Key.{Key}
use Rattle.oe_rows.specs.declared.keys.Key.TheVariants as key
use Rattle.oe_requests.specs.declared.requests.CustomerChoice.{CustomerChoice}
use Rattle.oe_requests.specs.declared.requests.CustomerChoice.TheVariants as choice
use Rattle.oe_requests.specs.declared.requests.RequestLine.{RequestLine}
use Rattle.oe_requests.specs.declared.requests.Request.{Request}
use Rattle.oe_requests.specs.declared.requests.Request.TheVariants as request
use Rattle.oe_texts.specs.Key.{key_text}
use Rattle.oe_reply_words.specs.declared.rows.Change.{Change}
use Rattle.oe_reply_words.specs.Parts.{is_same, parts_of, word_at}

-- a district is that of these numbers
abbrev pub is_in : DistrictKey → ℕ → ℕ → Bool
is_in k warehouse district = (k.warehouse == warehouse) && (k.district == district)

-- a customer was chosen by its number, or by its last name, where the reply tells its number (clause 2.5.3.4)
abbrev pub is_chosen : CustomerChoice → List ℕ → ℕ → Bool
is_chosen (choice.Number c) reply n = c == n
is_chosen (choice.LastName l) reply n = is_same (word_at 32 1 reply) (decimal n)

-- a line of an order takes from a stock
abbrev pub is_ordered : StockKey → RequestLine → Bool
is_ordered k l = (l.supply == k.warehouse) && (l.item == k.item)

-- a district's part of the reply of ten deliveries, <district>:<order>:<customer>:<sum>, tells of that customer
abbrev pub is_delivered : CustomerKey → List ℕ → Bool
is_delivered k part =
    is_same (word_at 58 0 part) (decimal k.district) && is_same (word_at 58 2 part) (decimal k.customer)

abbrev pub are_delivered : CustomerKey → List ℕ → Bool
are_delivered k reply = list_any (is_delivered k) (parts_of 32 reply)

-- D_YTD by a payment (clause 2.5.2.2), D_NEXT_O_ID by an order (clause 2.4.2.2)
abbrev pub changes_district : Request → DistrictKey → Bool
changes_district (request.Payment q) k = is_in q.district k.warehouse k.district
changes_district (request.NewOrder q) k = is_in q.district k.warehouse k.district
changes_district q k = false

-- a payment by the customer, a delivery to it (clauses 2.5.2.2 and 2.7.4.2), or a rename
abbrev pub changes_customer : Request → List ℕ → CustomerKey → Bool
changes_customer (request.Payment q) reply k =
    is_in q.customer_district k.warehouse k.district && is_chosen q.customer reply k.customer
changes_customer (request.Delivery q) reply k =
    is_in q.district k.warehouse k.district && is_same (word_at 32 2 reply) (decimal k.customer)
changes_customer (request.Deliveries q) reply k = (q.warehouse.warehouse == k.warehouse) && are_delivered k reply
changes_customer (request.Rename q) reply k = eq_by_cmp customer_cmp q.customer k
changes_customer (request.NewOrder q) reply k = false

-- an order with a line that takes from the stock (clause 2.4.2.2)
abbrev pub changes_stock : Request → StockKey → Bool
changes_stock (request.NewOrder q) k = list_any (is_ordered k) q.lines
changes_stock q k = false

abbrev pub changes_row : Request → List ℕ → Key → Bool
changes_row q reply (key.District k) = changes_district q k
changes_row q reply (key.Customer k) = changes_customer q reply k
changes_row q reply (key.Stock k) = changes_stock q k
changes_row q reply k = false

-- a transaction that was not refused changed the row
abbrev pub changes : Request → List ℕ → Key → Bool
changes q reply k = if is_same (word_at 32 0 reply) (codes "error") then false else changes_row q reply k

--  (<row> was changed last by line <number>)
abbrev pub change_text : Change → List ℕ
change_text c =
    codes " (" ++ key_text c.row ++ codes " was changed last by line " ++ decimal c.line ++ codes ")"

abbrev pub last_text : Option Change → List ℕ
last_text None = []
last_text (Some c) = change_text c
