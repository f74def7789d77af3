-- A program that is ready has its reply in its position.
use Rattle.std.proofs.Common.{◌≡◌, ℕ, [], ◌∷◌, Option, None, Some}
use Rattle.std.specs.Prelude.{option_map}
use Rattle.std.specs.FinMap.{get}
use Rattle.oe_theory.specs.Machine.{Tx, Go, Ready}
use Rattle.oe_rows.specs.declared.keys.Key.TheVariants as key
use Rattle.oe_requests.specs.declared.requests.PaymentRequest.{PaymentRequest}
use Rattle.oe_requests.specs.declared.requests.NewOrderRequest.{NewOrderRequest}
use Rattle.oe_requests.specs.declared.requests.DeliveryRequest.{DeliveryRequest}
use Rattle.oe_requests.specs.declared.requests.RenameRequest.{RenameRequest}
use Rattle.oe_requests.specs.declared.requests.Request.{Request}
use Rattle.oe_requests.specs.declared.replies.Reply.{Reply}
use Rattle.oe_requests.specs.declared.replies.DistrictDelivery.TheVariants.{Skipped}
use Rattle.oe_requests.specs.declared.refusals.Column.{Column}
use Rattle.oe_requests.specs.declared.refusals.Refusal.{Refusal}
use Rattle.oe_requests.specs.declared.refusals.Refusal.TheVariants.{NoSuchRow, InvalidItem, NoCustomer}
use Rattle.oe_model.specs.Keys.{warehouse_of_district, customer_in, order_in, new_order_in, line_in}
use Rattle.oe_model.specs.Rows.{Rows}
use Rattle.oe_model.specs.Changes.{Change, DeleteNewOrder}
use Rattle.oe_model.specs.Effects.{Doing, with_value, within}
use Rattle.oe_model.specs.Choice.{customer_meant}
use Rattle.oe_model.specs.Positions.{Position, InPayment, InNewOrder, InDelivery, InDeliveries, DeliveriesEnd}
use Rattle.oe_model.specs.Positions.{InRename, PaymentPosition, PaymentWarehouse, PaymentDistrict, PaymentNames}
use Rattle.oe_model.specs.Positions.{PaymentCustomer, PaymentHistory, PaymentEnd, NewOrderPosition, NewOrderWarehouse}
use Rattle.oe_model.specs.Positions.{NewOrderDistrict, NewOrderCustomer, NewOrderOrder, NewOrderQueue, NewOrderStock}
use Rattle.oe_model.specs.Positions.{NewOrderLine}
use Rattle.oe_model.specs.Positions.{DeliveryPosition, DeliveryQueue, DeliveryNothing, DeliveryOrder, DeliveryLine}
use Rattle.oe_model.specs.Positions.{DeliveryEnd, RenamePosition, RenameCustomer, RenameOld, RenameNew, RenameEnd}
use Rattle.oe_model.specs.Payment.{payment_act}
use Rattle.oe_model.specs.NewOrder.{item_at, stock_of, new_order_act}
use Rattle.oe_model.specs.Delivery.{Setting, alone, district_act, oldest}
use Rattle.oe_model.specs.Deliveries.{at_hand, among_ten}
use Rattle.oe_model.specs.Rename.{rename_act}
use Rattle.oe_model.specs.System.{act}
use Rattle.oe_engine.specs.Programs.{payment_reply, new_order_reply, district_reply, renamed_reply, reply_at}

given_ready : {A : Type 0} (e : Refusal) (o : Option A) (f : A → Doing) (y : Reply) → with_value e o f ≡ Ready y
    → (a : A) × (f a ≡ Ready y)
given_ready e None f y h = let no : ⊥ = cc in absurd no
given_ready e (Some a) f y h = (a, h)

within_ready : (o : Option Column) (d : Doing) (y : Reply) → within o d ≡ Ready y → d ≡ Ready y
within_ready None d y h = h
within_ready (Some k) d y h = let no : ⊥ = cc in absurd no

goes : (c : Option Change) (p : Position) (y : Reply) → ◌≡◌ {A = Doing} (Go c p) (Ready y) → ⊥
goes c p y h = cc

payment_ready : (t k : ℕ) (q : PaymentRequest) (p : PaymentPosition) (r : Rows) (y : Reply)
    → payment_act t k q p r ≡ Ready y → payment_reply p ≡ Some y
payment_ready t k q PaymentWarehouse r y h =
    let (x, e) = given_ready (NoSuchRow (key.Warehouse (warehouse_of_district q.district)))
    (get r.warehouses (warehouse_of_district q.district)) _ y h in absurd (goes _ _ y (within_ready _ _ y e))
payment_ready t k q (PaymentDistrict w) r y h =
    let (x, e) = given_ready (NoSuchRow (key.District q.district)) (get r.districts q.district) _ y h in
    absurd (goes _ _ y (within_ready _ _ y e))
payment_ready t k q (PaymentNames w d) r y h =
    let (c, e) = given_ready NoCustomer (customer_meant q.customer_district q.customer r.customers) _ y h in
    absurd (goes _ _ y e)
payment_ready t k q (PaymentCustomer w d c) r y h =
    let (x, e) = given_ready NoCustomer (get r.customers (customer_in q.customer_district c)) _ y h in
    absurd (goes _ _ y (within_ready _ _ y e))
payment_ready t k q (PaymentHistory d z) r y h = absurd (goes _ _ y h)
payment_ready t k q (PaymentEnd z) r y h = cc

new_order_ready : (q : NewOrderRequest) (p : NewOrderPosition) (r : Rows) (y : Reply) → new_order_act q p r ≡ Ready y
    → new_order_reply p ≡ Some y
new_order_ready q NewOrderWarehouse r y h =
    let (x, e) = given_ready (NoSuchRow (key.Warehouse (warehouse_of_district q.district)))
    (get r.warehouses (warehouse_of_district q.district)) _ y h in absurd (goes _ _ y e)
new_order_ready q (NewOrderDistrict w) r y h =
    let (x, e) = given_ready (NoSuchRow (key.District q.district)) (get r.districts q.district) _ y h in
    absurd (goes _ _ y (within_ready _ _ y e))
new_order_ready q (NewOrderCustomer o w d) r y h =
    let (x, e) = given_ready NoCustomer (get r.customers (customer_in q.district q.customer)) _ y h in
    absurd (goes _ _ y e)
new_order_ready q (NewOrderOrder s) r y h = absurd (goes _ _ y h)
new_order_ready q (NewOrderQueue s) r y h = absurd (goes _ _ y h)
new_order_ready q (NewOrderStock s before done []) r y h = cc
new_order_ready q (NewOrderStock s before done (l ∷ ls)) r y h =
    let (item, e) = given_ready InvalidItem (item_at l.item r.items) _ y h in
    let (x, f) = given_ready (NoSuchRow (key.Stock (stock_of l))) (get r.stocks (stock_of l)) _ y e in
    absurd (goes _ _ y (within_ready _ _ y f))
new_order_ready q (NewOrderLine s before done l f ls) r y h = absurd (goes _ _ y h)

-- the first row of a district's delivery, by the oldest order that waits
queue_goes : (t : Setting) (q : DeliveryRequest) (o : Option ℕ) (y : Reply)
    → ◌≡◌ {A = Doing} (elim o [
      | None ↦ Go None (t.next Skipped)
      | Some n ↦ Go (Some (DeleteNewOrder (new_order_in q.district n)))
          (t.here (DeliveryOrder n))
    ]) (Ready y) → ⊥
queue_goes t q None y h = goes _ _ y h
queue_goes t q (Some n) y h = goes _ _ y h

-- a district, of a transaction of it alone or of ten
district_ready : (t : Setting) (q : DeliveryRequest) (p : DeliveryPosition) (r : Rows) (y : Reply)
    → district_act t q p r ≡ Ready y → option_map (t.answer) (district_reply p) ≡ Some y
district_ready t q DeliveryQueue r y h = absurd (queue_goes t q (oldest q.district r.new_orders) y h)
district_ready t q DeliveryNothing r y h = cc
district_ready t q (DeliveryOrder o) r y h =
    let (x, e) = given_ready (NoSuchRow (key.Order (order_in q.district o))) (get r.orders (order_in q.district o)) _ y
    h in absurd (goes _ _ y e)
district_ready t q (DeliveryLine o c [] sum) r y h =
    let (x, e) = given_ready (NoSuchRow (key.Customer (customer_in q.district c)))
    (get r.customers (customer_in q.district c)) _ y h in absurd (goes _ _ y (within_ready _ _ y e))
district_ready t q (DeliveryLine o c (n ∷ ns) sum) r y h =
    let (x, e) = given_ready (NoSuchRow (key.OrderLine (line_in (order_in q.district o) n)))
    (get r.order_lines (line_in (order_in q.district o) n)) _ y h in absurd (goes _ _ y e)
district_ready t q (DeliveryEnd o c sum) r y h = cc

rename_ready : (q : RenameRequest) (p : RenamePosition) (r : Rows) (y : Reply) → rename_act q p r ≡ Ready y
    → renamed_reply q p ≡ Some y
rename_ready q RenameCustomer r y h =
    let (x, e) = given_ready NoCustomer (get r.customers q.customer) _ y h in absurd (goes _ _ y e)
rename_ready q (RenameOld last) r y h = absurd (goes _ _ y h)
rename_ready q (RenameNew last) r y h =
    let (x, e) = given_ready NoCustomer (get r.customers q.customer) _ y h in absurd (goes _ _ y e)
rename_ready q (RenameEnd last) r y h = cc

pub ready_at : (x : Tx Request) (p : Position) (r : Rows) (y : Reply) → act x p r ≡ Ready y → reply_at p ≡ Some y
ready_at x (InPayment q p) r y h = payment_ready x.terminal x.number q p r y h
ready_at x (InNewOrder q p) r y h = new_order_ready q p r y h
ready_at x (InDelivery q p) r y h = district_ready (alone q) q p r y h
ready_at x (InDeliveries q done p) r y h = district_ready (among_ten q done) (at_hand q done) p r y h
ready_at x (DeliveriesEnd done) r y h = cc
ready_at x (InRename q p) r y h = rename_ready q p r y h
