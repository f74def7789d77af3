-- Lines of a script as text: the words of the grammar, parted by blanks.
use Rattle.std.specs.Prelude.{ℕ, List, [], ◌∷◌, ◌++◌, decimal}
use Rattle.std.specs.List.{join_with_byte}
use Rattle.oe_rows.specs.declared.keys.CustomerKey.{CustomerKey}
use Rattle.oe_rows.specs.declared.keys.DistrictKey.{DistrictKey}
use Rattle.oe_rows.specs.declared.scales.Scale.{Scale}
use Rattle.oe_requests.specs.declared.requests.RequestLine.{RequestLine}
use Rattle.oe_requests.specs.declared.requests.PaymentRequest.{PaymentRequest}
use Rattle.oe_requests.specs.declared.requests.NewOrderRequest.{NewOrderRequest}
use Rattle.oe_texts.specs.Stamp.{stamp_text}
use Rattle.oe_lines.specs.Grammar.{customer_word, line_word, words_of}
use Rattle.oe_lines.specs.declared.commands.Command.{Command}

-- words parted by blanks
abbrev pub line_of_words : List (List ℕ) → List ℕ
line_of_words words = join_with_byte 32 words

-- the line of a command, with the byte that ends it
abbrev pub line_text : Command → List ℕ
line_text c = line_of_words (words_of c) ++ 10 ∷ []

abbrev pub district_text : DistrictKey → List ℕ
district_text k = decimal k.warehouse ++ 32 ∷ decimal k.district

abbrev pub customer_text : CustomerKey → List ℕ
customer_text k = decimal k.warehouse ++ 32 ∷ (decimal k.district ++ 32 ∷ decimal k.customer)

-- an item of an order behind a blank
abbrev pub item_text : RequestLine → List ℕ
item_text l = 32 ∷ line_word l

-- who pays where
abbrev pub parties_text : PaymentRequest → List ℕ
parties_text q =
    district_text q.district ++ 32 ∷ (district_text q.customer_district ++ 32 ∷ customer_word q.customer)

-- who orders where and when
abbrev pub head_text : NewOrderRequest → List ℕ
head_text q = district_text q.district ++ 32 ∷ (decimal q.customer ++ 32 ∷ stamp_text q.stamp)

-- warehouses, customers and items
abbrev pub scale_text : Scale → List ℕ
scale_text s = decimal s.warehouses ++ 32 ∷ (decimal s.customers ++ 32 ∷ decimal s.items)
