-- The row that the first word which differs tells of.
use Rattle.std.specs.Prelude.{ℕ, ◌-◌, ◌==◌, ◌&&◌, nat_le, nat_lt, List, Option, None, Some, if◌then◌else◌}
use Rattle.std.specs.List.{slice_get}
use Rattle.std.specs.Option.{option_map}
use Rattle.oe_values.specs.Front.{◌>>=◌, decimal_of, alone}
use Rattle.oe_rows.specs.declared.keys.DistrictKey.{DistrictKey}
use Rattle.oe_rows.specs.declared.keys.Key.{Key}
use Rattle.oe_rows.specs.declared.keys.Key.TheVariants as key
use Rattle.oe_requests.specs.declared.requests.CustomerChoice.{CustomerChoice}
use Rattle.oe_requests.specs.declared.requests.CustomerChoice.TheVariants as choice
use Rattle.oe_requests.specs.declared.requests.NewOrderRequest.{NewOrderRequest}
use Rattle.oe_requests.specs.declared.requests.PaymentRequest.{PaymentRequest}
use Rattle.oe_requests.specs.declared.requests.Request.{Request}
use Rattle.oe_requests.specs.declared.requests.Request.TheVariants as request
use Rattle.oe_requests.specs.declared.requests.RequestLine.{RequestLine}
use Rattle.oe_reply_words.specs.Parts.{word_at}
use Rattle.oe_reply_words.specs.Others.{Differing, other_part}
use Rattle.oe_reply_words.specs.Rows.{changes}

-- the number, where it is in the range
abbrev pub within : ℕ → ℕ → ℕ → Option ℕ
within low high n = if nat_le low n && nat_le n high then Some n else None

-- the number that a word is
unfoldable pub number_of : List ℕ → Option ℕ
number_of word = do
  p ← decimal_of word
  alone p.0 p.1

-- a payment's customer: of its number, or of the one that the reply names where a last name chose it (clause 2.5.3.4)
abbrev pub payer_number : CustomerChoice → List ℕ → Option ℕ
payer_number (choice.Number c) reply = Some c
payer_number (choice.LastName l) reply = number_of (word_at 32 1 reply) >>= within 1 3_000

abbrev pub customer_in : DistrictKey → ℕ → Key
customer_in d c = key.Customer (record { warehouse = d.warehouse; district = d.district; customer = c })

abbrev pub payer : PaymentRequest → List ℕ → Option Key
payer q reply = option_map (customer_in q.customer_district) (payer_number q.customer reply)

-- the stock that a line of an order takes from; an unused item has none (clause 2.4.1.5)
abbrev pub stock_of_line : RequestLine → Option Key
stock_of_line l = option_map (λ i. key.Stock (record { warehouse = l.supply; item = i })) (within 1 100_000 l.item)

abbrev pub stock_at : NewOrderRequest → ℕ → Option Key
stock_at q n = slice_get q.lines n >>= stock_of_line

-- by a word of an order's reply: the order's number is the district's (D_NEXT_O_ID), and the second part of an item's
-- word is what its stock has left (S_QUANTITY, clause 2.4.3.3)
abbrev pub row_of_order : NewOrderRequest → Differing → Option Key
row_of_order q d =
    if d.place == 1 then Some (key.District q.district)
    else if nat_lt d.place 5 then None
    else if (other_part 58 d.theirs d.ours).place == 1 then stock_at q (d.place - 5)
    else None

-- by a word behind the first: each of a payment's reply tells of its customer
abbrev pub row_of_word : Request → List ℕ → Differing → Option Key
row_of_word (request.NewOrder q) reply d = row_of_order q d
row_of_word (request.Payment q) reply d = payer q reply
row_of_word q reply d = None

-- the first word tells of no row: it says which reply it is
abbrev pub row_of : Request → List ℕ → Differing → Option Key
row_of q reply d = if d.place == 0 then None else row_of_word q reply d

-- the row, where the transaction changed it
abbrev pub if_changed : Request → List ℕ → Key → Option Key
if_changed q reply k = if changes q reply k then Some k else None

-- the row that the first word which differs tells of, where the transaction changed it
abbrev pub row_told : Request → List ℕ → List ℕ → Option Key
row_told q theirs ours = row_of q ours (other_part 32 theirs ours) >>= if_changed q ours
