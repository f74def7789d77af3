-- The table's ranges are the grammar's: a line's form asks for exactly these numbers.
use Rattle.std.specs.Prelude.{◌≡◌, ℕ, ◌+◌, ◌≤◌, ◌↔◌, List, [], ◌∷◌, length, None, Some, slice_get}
use Rattle.std.specs.List.{All, Contains}
use Rattle.oe_rows.specs.declared.scales.Scale.{Scale}
use Rattle.oe_rows.specs.declared.keys.DistrictKey.{DistrictKey}
use Rattle.oe_requests.specs.declared.requests.CustomerChoice.TheVariants as choice
use Rattle.oe_requests.specs.declared.requests.PaymentRequest.{PaymentRequest}
use Rattle.oe_requests.specs.declared.requests.RequestLine.{RequestLine}
use Rattle.oe_requests.specs.declared.requests.NewOrderRequest.{NewOrderRequest}
use Rattle.oe_requests.specs.declared.requests.DeliveryRequest.{DeliveryRequest}
use Rattle.oe_requests.specs.declared.requests.DeliveriesRequest.{DeliveriesRequest}
use Rattle.oe_requests.specs.declared.requests.RenameRequest.{RenameRequest}
use Rattle.oe_requests.specs.declared.requests.Request.{Request}
use Rattle.oe_requests.specs.declared.requests.Request.TheVariants as request
use Rattle.oe_requests.specs.declared.requests.LevelQuery.{LevelQuery}
use Rattle.oe_requests.specs.declared.requests.Query.{Query}
use Rattle.oe_requests.specs.declared.requests.Query.TheVariants as query
use Rattle.oe_values.specs.Text.{IsLastName, IsFirstName}
use Rattle.oe_model.specs.Keys.{district_of_customer}
use Rattle.oe_model.specs.Requests as model
use Rattle.oe_lines.specs.declared.commands.Command.{Command}
use Rattle.oe_lines.specs.declared.commands.Command.TheVariants as command
use Rattle.oe_lines.specs.declared.commands.Display.{Display}
use Rattle.oe_lines.specs.declared.commands.Display.TheVariants as display
use Rattle.oe_lines.specs.declared.commands.MomentChoice.TheVariants as moment
use Rattle.oe_lines.specs.declared.commands.RingChoice.{RingChoice}
use Rattle.oe_lines.specs.Grammar.{HasForm, IsMoment, IsQuery, words_of}
use Rattle.oe_reasons.specs.declared.forms.Column.{Column}
use Rattle.oe_reasons.specs.declared.forms.Column.TheVariants as column
use Rattle.oe_reasons.specs.declared.forms.Form.{Form}
use Rattle.oe_reasons.specs.declared.forms.Form.TheVariants as form
use Rattle.oe_reasons.specs.declared.verbs.Verb.{Verb}
use Rattle.oe_reasons.specs.declared.verbs.Kind.{Kind}
use Rattle.oe_reasons.specs.Verbs.{kind_of, kind_word, verb_of, verb_word}
use Rattle.oe_reasons.specs.Columns.{columns_of, fault_of, forms, forms_of, greatest, least, least_words, most_words}
use Rattle.oe_reasons.specs.Shapes.{columns_with_range}

abbrev pub InColumn : Column → ℕ → Type 0
InColumn c n = (least c ≤ n) × (n ≤ greatest c)

abbrev pub InDistrict : DistrictKey → Type 0
InDistrict d = InColumn column.Warehouse d.warehouse × InColumn column.District d.district

abbrev pub InCustomerDistrict : DistrictKey → Type 0
InCustomerDistrict d = InColumn column.CustomerWarehouse d.warehouse × InColumn column.CustomerDistrict d.district

abbrev pub InLine : RequestLine → Type 0
InLine l = InColumn column.Supply l.supply × InColumn column.Item l.item × InColumn column.Quantity l.quantity

pub record Ranges_are_the_grammars : Type 0 where
  pub opening : (s : Scale) (ring : RingChoice) → HasForm (command.Open s ring)
      ↔ (InColumn column.Warehouses s.warehouses × InColumn column.Customers s.customers
      × InColumn column.Items s.items × InColumn column.Extents ring.extents)
  pub terminal : (t : ℕ) → HasForm (command.Next t) ↔ InColumn column.Terminal t
  pub payment : (q : PaymentRequest) → model.IsRequest (request.Payment q)
      ↔ (InDistrict q.district × InCustomerDistrict q.customer_district × model.IsChoice q.customer
      × InColumn column.Amount q.amount × model.IsStamp q.stamp)
  pub customer : (n : ℕ) → model.IsChoice (choice.Number n) ↔ InColumn column.Customer n
  pub order : (q : NewOrderRequest) → model.IsRequest (request.NewOrder q)
      ↔ (InDistrict q.district × InColumn column.Customer q.customer × model.IsStamp q.stamp
      × (least_words form.NewOrder ≤ 7 + length q.lines) × (7 + length q.lines ≤ most_words form.NewOrder)
      × All InLine q.lines)
  pub delivery : (q : DeliveryRequest) → model.IsRequest (request.Delivery q)
      ↔ (InDistrict q.district × InColumn column.Carrier q.carrier × model.IsStamp q.stamp)
  pub deliveries : (q : DeliveriesRequest) → model.IsRequest (request.Deliveries q)
      ↔ (InColumn column.Warehouse q.warehouse.warehouse × InColumn column.Carrier q.carrier × model.IsStamp q.stamp)
  pub rename : (q : RenameRequest) → model.IsRequest (request.Rename q)
      ↔ (InDistrict (district_of_customer q.customer) × InColumn column.Customer q.customer.customer
      × IsLastName q.last × IsFirstName q.first)
  pub level : (q : LevelQuery) → IsQuery (query.Level q)
      ↔ (InDistrict q.district × InColumn column.Threshold q.threshold)
  pub at_moment : (m : ℕ) → IsMoment (moment.At m) ↔ InColumn column.Moment m

-- THE WORDS OF EACH COMMAND

-- an own word of the form stands there as it is, and no other word is wrong there
abbrev pub Suits : Column → List ℕ → Type 0
Suits (column.Verb v) w = w ≡ verb_word v
Suits (column.Kind k) w = w ≡ kind_word k
Suits c w = fault_of c w ≡ None

-- each word suits the column where it stands
abbrev pub Fits : List Column → List (List ℕ) → Type 0
Fits columns [] = Unit {0}
Fits [] (w ∷ ws) = ⊥
Fits (c ∷ cs) (w ∷ ws) = Suits c w × Fits cs ws

-- the form that a command's line has
abbrev pub request_form : Request → Form
request_form (request.Payment q) = form.Payment
request_form (request.NewOrder q) = form.NewOrder
request_form (request.Delivery q) = form.Delivery
request_form (request.Deliveries q) = form.Deliveries
request_form (request.Rename q) = form.Rename

abbrev pub query_form : Query → Form
query_form (query.Status q) = form.Status
query_form (query.Level q) = form.Level

abbrev pub display_form : Display → Form
display_form (display.Rows t) = form.Dump
display_form display.Waits = form.Waits
display_form display.Locks = form.Locks

abbrev pub command_form : Command → Form
command_form (command.Open s e) = form.Opening
command_form (command.Begin t q) = request_form q
command_form (command.Next t) = form.Next
command_form (command.Run t) = form.Run
command_form (command.Save t) = form.Save
command_form (command.Back t) = form.Back
command_form (command.Rollback t) = form.Rollback
command_form (command.Show d) = display_form d
command_form (command.Audit c m) = form.Audit
command_form (command.Read m q) = query_form q
command_form (command.Purge m) = form.Purge
command_form (command.Rewind m) = form.Rewind

-- the words are right for a form: each suits its column, and they are neither too few nor too many
pub record IsRight (f : Form) (ws : List (List ℕ)) : Type 0 where
  pub fit : Fits (columns_of f) ws
  pub enough : least_words f ≤ length ws
  pub few : length ws ≤ most_words f

abbrev pub Words_are_right : Type 0
Words_are_right = (c : Command) → HasForm c → IsRight (command_form c) (words_of c)

-- THE LISTS ARE WHOLE

-- each verb and each kind is read as what it is
pub record Verbs_are_read : Type 0 where
  pub each_verb : (v : Verb) → verb_of (verb_word v) ≡ Some v
  pub each_kind : (k : Kind) → kind_of (kind_word k) ≡ Some k

-- the list has the column's range, unless the column is a form's own word
abbrev pub IsTold : Column → Type 0
IsTold (column.Verb v) = Unit {0}
IsTold (column.Kind k) = Unit {0}
IsTold c = Contains columns_with_range c

abbrev pub BeginsWith : Verb → Form → Type 0
BeginsWith v f = slice_get (columns_of f) 0 ≡ Some (column.Verb v)

-- the list has each form, as one that begins with its verb, and each column's range but of a form's own words
pub record Lists_are_whole : Type 0 where
  pub each_form : (f : Form) → Contains forms f
  pub verb_first : (v : Verb) → All (BeginsWith v) (forms_of v)
  pub each_column : (c : Column) → IsTold c
