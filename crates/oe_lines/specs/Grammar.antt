-- The grammar of a script's lines: each command has one spelling.
use Rattle.std.specs.Prelude.{◌≡◌, ℕ, ◌≤◌, List, [], ◌∷◌, map, codes, decimal}
use Rattle.std.specs.Int.{IsInRange}
use Rattle.std.specs.List.{join_with_byte}
use Rattle.oe_rows.specs.Credit.{money_text}
use Rattle.oe_values.specs.declared.numbers.TheConstants.{TERMINALS}
use Rattle.oe_rows.specs.Key.{table_name}
use Rattle.oe_requests.specs.declared.requests.CustomerChoice.{CustomerChoice}
use Rattle.oe_requests.specs.declared.requests.CustomerChoice.TheVariants as choice
use Rattle.oe_requests.specs.declared.requests.RequestLine.{RequestLine}
use Rattle.oe_requests.specs.declared.requests.Request.{Request}
use Rattle.oe_requests.specs.declared.requests.Request.TheVariants as request
use Rattle.oe_requests.specs.declared.requests.Query.{Query}
use Rattle.oe_requests.specs.declared.requests.Query.TheVariants as query
use Rattle.oe_requests.specs.Condition.{condition_number}
use Rattle.oe_texts.specs.Stamp.{stamp_text}
use Rattle.oe_model.specs.Population.{IsScale}
use Rattle.oe_model.specs.Requests as model
use Rattle.oe_lines.specs.Rings.{layout_words}
use Rattle.oe_lines.specs.declared.commands.Command.{Command}
use Rattle.oe_lines.specs.declared.commands.Command.TheVariants as command
use Rattle.oe_lines.specs.declared.commands.Display.{Display}
use Rattle.oe_lines.specs.declared.commands.Display.TheVariants as display
use Rattle.oe_lines.specs.declared.commands.MomentChoice.{MomentChoice}
use Rattle.oe_lines.specs.declared.commands.MomentChoice.TheVariants as moment

-- a customer by number, or by last name
abbrev pub customer_word : CustomerChoice → List ℕ
customer_word (choice.Number n) = decimal n
customer_word (choice.LastName name) = name

abbrev pub moment_word : MomentChoice → List ℕ
moment_word moment.Now = codes "now"
moment_word (moment.At m) = decimal m

-- an item of an order: its supply warehouse, its number and the quantity, parted by colons
abbrev pub line_word : RequestLine → List ℕ
line_word l = join_with_byte 58 (decimal l.supply ∷ decimal l.item ∷ decimal l.quantity ∷ [])

-- the words of a request
abbrev pub request_words : Request → List (List ℕ)
request_words (request.Payment p) =
    codes "payment" ∷ decimal p.district.warehouse ∷ decimal p.district.district
    ∷ decimal p.customer_district.warehouse ∷ decimal p.customer_district.district
    ∷ customer_word p.customer ∷ money_text p.amount ∷ stamp_text p.stamp ∷ []
request_words (request.NewOrder q) =
    codes "neworder" ∷ decimal q.district.warehouse ∷ decimal q.district.district ∷ decimal q.customer
    ∷ stamp_text q.stamp ∷ map line_word q.lines
request_words (request.Delivery q) =
    codes "delivery" ∷ decimal q.district.warehouse ∷ decimal q.district.district ∷ decimal q.carrier ∷ stamp_text
    q.stamp ∷ []
request_words (request.Deliveries q) =
    codes "delivery" ∷ decimal q.warehouse.warehouse ∷ decimal q.carrier ∷ stamp_text q.stamp ∷ []
request_words (request.Rename q) =
    codes "rename" ∷ decimal q.customer.warehouse ∷ decimal q.customer.district ∷ decimal q.customer.customer
    ∷ q.last ∷ q.first ∷ []

-- the words of a query
abbrev pub query_words : Query → List (List ℕ)
query_words (query.Status q) =
    codes "status" ∷ decimal q.district.warehouse ∷ decimal q.district.district ∷ customer_word q.customer ∷ []
query_words (query.Level q) =
    codes "level" ∷ decimal q.district.warehouse ∷ decimal q.district.district ∷ decimal q.threshold ∷ []

-- the words that ask for something to be shown
abbrev pub display_words : Display → List (List ℕ)
display_words (display.Rows table) = codes "dump" ∷ table_name table ∷ []
display_words display.Waits = codes "waits" ∷ []
display_words display.Locks = codes "locks" ∷ []

-- the words of a command
abbrev pub words_of : Command → List (List ℕ)
words_of (command.Open s ring) =
    codes "open" ∷ decimal s.warehouses ∷ decimal s.customers ∷ decimal s.items ∷ decimal ring.extents
    ∷ layout_words ring.layout
words_of (command.Begin terminal r) = codes "begin" ∷ decimal terminal ∷ request_words r
words_of (command.Next terminal) = codes "next" ∷ decimal terminal ∷ []
words_of (command.Run terminal) = codes "run" ∷ decimal terminal ∷ []
words_of (command.Save terminal) = codes "save" ∷ decimal terminal ∷ []
words_of (command.Back terminal) = codes "back" ∷ decimal terminal ∷ []
words_of (command.Rollback terminal) = codes "rollback" ∷ decimal terminal ∷ []
words_of (command.Show d) = display_words d
words_of (command.Audit c m) = codes "audit" ∷ decimal (condition_number c) ∷ moment_word m ∷ []
words_of (command.Read m q) = codes "read" ∷ moment_word m ∷ query_words q
words_of (command.Purge m) = codes "purge" ∷ moment_word m ∷ []
words_of (command.Rewind m) = codes "rewind" ∷ moment_word m ∷ []

-- clauses 2.6.1.2 and 2.8.1.2: a customer by number or by last name, and a threshold of 10 to 20
abbrev pub IsQuery : Query → Type 0
IsQuery (query.Status q) = model.IsDistrict q.district × model.IsChoice q.customer
IsQuery (query.Level q) = model.IsDistrict q.district × IsInRange 10 20 q.threshold

abbrev pub IsMoment : MomentChoice → Type 0
IsMoment moment.Now = Unit {0}
IsMoment (moment.At m) = m ≤ 999_999_999_999

-- a command that has a form, with its numbers in their ranges
abbrev pub HasForm : Command → Type 0
HasForm (command.Open s ring) = IsScale s × IsInRange 2 4_096 ring.extents
HasForm (command.Begin terminal r) = IsInRange 1 TERMINALS terminal × model.IsRequest r
HasForm (command.Next terminal) = IsInRange 1 TERMINALS terminal
HasForm (command.Run terminal) = IsInRange 1 TERMINALS terminal
HasForm (command.Save terminal) = IsInRange 1 TERMINALS terminal
HasForm (command.Back terminal) = IsInRange 1 TERMINALS terminal
HasForm (command.Rollback terminal) = IsInRange 1 TERMINALS terminal
HasForm (command.Show d) = Unit {0}
HasForm (command.Audit c m) = IsMoment m
HasForm (command.Read m q) = IsMoment m × IsQuery q
HasForm (command.Purge m) = IsMoment m
HasForm (command.Rewind m) = IsMoment m

-- The line, without its end, is the command's words parted by one space.
pub record Says (line : List ℕ) (c : Command) : Type 0 where
  pub form : HasForm c
  pub spelled : line ≡ join_with_byte 32 (words_of c)
