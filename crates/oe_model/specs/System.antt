-- The server's machine: tables, locks, programs and whole effects, as the theory of transactions takes them.
use Rattle.std.specs.Prelude.{ℕ, suc, Bool, true, false, List, [], Option}
use Rattle.oe_theory.specs.Machine.{Machine, Ask, Plain, Ready, Tx, Hold}
use Rattle.oe_values.specs.declared.numbers.TheConstants.{TERMINALS}
use Rattle.oe_rows.specs.declared.keys.Key.{Key}
use Rattle.oe_rows.specs.declared.rows.Row.{Row}
use Rattle.oe_rows.specs.declared.locks.Name.{Name}
use Rattle.oe_requests.specs.declared.requests.Request.{Request}
use Rattle.oe_requests.specs.declared.requests.Request.TheVariants as request
use Rattle.oe_requests.specs.declared.requests.Query.{Query}
use Rattle.oe_requests.specs.declared.replies.Reply.{Reply}
use Rattle.oe_requests.specs.declared.replies.Reply.TheVariants as reply
use Rattle.oe_requests.specs.declared.replies.QueryReply.{QueryReply}
use Rattle.oe_requests.specs.declared.refusals.Refusal.{Refusal}
use Rattle.oe_requests.specs.declared.refusals.Refusal.TheVariants.{NoCustomer, Overflow}
use Rattle.oe_model.specs.Rows.{Rows, is_key, row_at}
use Rattle.oe_model.specs.Changes.{Change, key_of, row_of, rows_after, Record, record_in, record_key, restore}
use Rattle.oe_rows.specs.declared.layouts.Layout.{Layout}
use Rattle.oe_model.specs.Changes.{put_back, redo}
use Rattle.oe_model.specs.Lengths.{record_length}
use Rattle.oe_model.specs.Meets.{Accepts}
use Rattle.oe_model.specs.Locks.{is_name, governs, Facet, Part, facet_key, part, governs_part}
use Rattle.oe_model.specs.Positions.{Position, InPayment, InNewOrder, InDelivery, InDeliveries, DeliveriesEnd}
use Rattle.oe_model.specs.Positions.{InRename, PaymentWarehouse, PaymentHistory, NewOrderWarehouse, NewOrderOrder}
use Rattle.oe_model.specs.Positions.{NewOrderQueue, NewOrderLine, DeliveryQueue, RenameCustomer, RenameNew}
use Rattle.oe_model.specs.Effects.{Doing}
use Rattle.oe_model.specs.Payment.{payment_effect, payment_ask, payment_act, payment_taken}
use Rattle.oe_model.specs.NewOrder.{new_order_effect, new_order_ask, new_order_act, new_order_taken}
use Rattle.oe_model.specs.Delivery.{delivery_effect, delivery_ask, district_act, delivery_act, delivery_taken}
use Rattle.oe_model.specs.Deliveries.{at_hand, among_ten, deliveries_effect}
use Rattle.oe_model.specs.Rename.{rename_effect, rename_ask, rename_act, rename_taken}
use Rattle.oe_model.specs.Requests.{IsRequest, MayRefuse, rejection, query_rejection, number_rejection}
use Rattle.oe_model.specs.Conditions.{Good}
use Rattle.oe_model.specs.Queries.{answer_of}
use Rattle.oe_model.specs.Audits.{Condition, Verdict, verdict}

-- where the program of a request begins
abbrev pub start_of : Request → Position
start_of (request.Payment q) = InPayment q PaymentWarehouse
start_of (request.NewOrder q) = InNewOrder q NewOrderWarehouse
start_of (request.Delivery q) = InDelivery q DeliveryQueue
start_of (request.Deliveries q) = InDeliveries q [] DeliveryQueue
start_of (request.Rename q) = InRename q RenameCustomer

abbrev pub ask : Tx Request → Position → Rows → Ask Name Refusal
ask x (InPayment q p) r = payment_ask q p r
ask x (InNewOrder q p) r = new_order_ask q p r
ask x (InDelivery q p) r = delivery_ask q p r
ask x (InDeliveries q done p) r = delivery_ask (at_hand q done) p r
ask x (DeliveriesEnd done) r = Plain
ask x (InRename q p) r = rename_ask q p r

abbrev pub act : Tx Request → Position → Rows → Doing
act x (InPayment q p) r = payment_act x.terminal x.number q p r
act x (InNewOrder q p) r = new_order_act q p r
act x (InDelivery q p) r = delivery_act q p r
act x (InDeliveries q done p) r = district_act (among_ten q done) (at_hand q done) p r
act x (DeliveriesEnd done) r = Ready (reply.Deliveries done)
act x (InRename q p) r = rename_act q p r

-- the locks that were taken on the way to a position; of ten districts, at the district at hand: the others stay held,
-- and no stage needs them
abbrev pub locks_before : Tx Request → Position → List (Hold Name)
locks_before x (InPayment q p) = payment_taken q p
locks_before x (InNewOrder q p) = new_order_taken q p
locks_before x (InDelivery q p) = delivery_taken q p
locks_before x (InDeliveries q done p) = delivery_taken (at_hand q done) p
locks_before x (DeliveriesEnd done) = []
locks_before x (InRename q p) = rename_taken q p

-- the whole effect of a request, for transaction k of terminal t
abbrev pub effect_of : ℕ → ℕ → Request → Rows → Option (Rows × Reply)
effect_of t k (request.Payment q) r = payment_effect t k q r
effect_of t k (request.NewOrder q) r = new_order_effect q r
effect_of t k (request.Delivery q) r = delivery_effect q r
effect_of t k (request.Deliveries q) r = deliveries_effect q r
effect_of t k (request.Rename q) r = rename_effect q r

-- a delivery of ten districts moves its mark before the first stage of each district
abbrev pub marks : Position → Bool
marks (InDeliveries q done DeliveryQueue) = true
marks _ = false

-- The stages that insert a row may need memory for its place in a table, and the one that renames a customer for a
-- place on the list of the new name. No other stage takes any but for a lock that is new: the memory for undo records
-- is taken with their ring.
abbrev pub may_allocate : Position → Bool
may_allocate (InPayment q (PaymentHistory d y)) = true
may_allocate (InNewOrder q (NewOrderOrder s)) = true
may_allocate (InNewOrder q (NewOrderQueue s)) = true
may_allocate (InNewOrder q (NewOrderLine s before done l f ls)) = true
may_allocate (InRename q (RenameNew last)) = true
may_allocate _ = false

-- a want of memory may stand in place of a column that leaves its range, and of a customer that is absent
abbrev pub yields : Position → Refusal → Bool
yields p (Overflow c) = true
yields (InPayment q p) NoCustomer = true
yields (InNewOrder q p) NoCustomer = true
yields (InRename q p) NoCustomer = true
yields _ _ = false

-- the length of a record; shut, so that no proof computes it
unfoldable pub size_of : Record → ℕ
size_of b = record_length b

-- terminals are 1 to 64, and 0 is the population's in HISTORY; shut, so that no proof counts them
unfoldable pub terminal_limit : ℕ
terminal_limit = suc TERMINALS

-- the server's machine
abbrev pub system : Machine
system = record {
  Map = Rows;
  Key = Key;
  Row = Row;
  Change = Change;
  is_key = is_key;
  row_at = row_at;
  key_of = key_of;
  row_of = row_of;
  put = rows_after;
  Accepts = Accepts;
  Layout = Layout;
  Record = Record;
  record_of = record_in;
  record_key = record_key;
  restore = restore;
  put_back = put_back;
  redo = redo;
  size_of = size_of;
  extent = 4096;
  Facet = Facet;
  Part = Part;
  facet_key = facet_key;
  part = part;
  Name = Name;
  is_name = is_name;
  governs = governs;
  governs_part = governs_part;
  Request = Request;
  Position = Position;
  Reply = Reply;
  Refusal = Refusal;
  IsRequest = IsRequest;
  MayRefuse = MayRefuse;
  start = λ x. start_of x.request;
  ask = ask;
  act = act;
  marks = marks;
  taken = locks_before;
  whole = λ x r. effect_of x.terminal x.number x.request r;
  Good = Good;
  rejection = rejection;
  number_rejection = number_rejection;
  may_allocate = λ x p. may_allocate p;
  yields = λ x p e. yields p e;
  Query = Query;
  Found = QueryReply;
  query_rejection = query_rejection;
  find = answer_of;
  Condition = Condition;
  Verdict = Verdict;
  verdict = verdict;
  first_terminal = 1;
  terminal_limit = terminal_limit;
}
