-- Which stages may need memory for their changes: those that insert a row or rename a customer.
use Rattle.std.proofs.Common.{◌≡◌, ℕ, true, false, [], ◌∷◌, Option, Some, None, sym, ap, ◌∙◌, subst, refl, inl, inr}
use Rattle.std.specs.Prelude.{◌⊎◌}
use Rattle.std.specs.FinMap.{get}
use Rattle.oe_theory.specs.Machine.{Go, Tx}
use Rattle.oe_rows.specs.declared.keys.CustomerKey.{CustomerKey}
use Rattle.oe_rows.specs.declared.keys.Key.TheVariants as key
use Rattle.oe_rows.specs.declared.customers.Customer.{Customer}
use Rattle.oe_requests.specs.declared.requests.Request.{Request}
use Rattle.oe_requests.specs.declared.requests.PaymentRequest.{PaymentRequest}
use Rattle.oe_requests.specs.declared.requests.NewOrderRequest.{NewOrderRequest}
use Rattle.oe_requests.specs.declared.requests.DeliveryRequest.{DeliveryRequest}
use Rattle.oe_requests.specs.declared.requests.RenameRequest.{RenameRequest}
use Rattle.oe_requests.specs.declared.replies.DistrictDelivery.TheVariants.{Skipped}
use Rattle.oe_requests.specs.declared.refusals.Column.{Column}
use Rattle.oe_requests.specs.declared.refusals.Refusal.{Refusal}
use Rattle.oe_requests.specs.declared.refusals.Refusal.TheVariants.{NoSuchRow, NoCustomer, InvalidItem}
use Rattle.oe_model.specs.Keys.{warehouse_of_district, customer_in, order_in, line_in, new_order_in}
use Rattle.oe_model.specs.Rows.{Rows}
use Rattle.oe_model.specs.Changes.{Change, UpdateCustomer, DeleteNewOrder}
use Rattle.oe_model.specs.Choice.{customer_meant}
use Rattle.oe_model.specs.Meets.{is_insert}
use Rattle.oe_model.specs.Effects.{Doing, with_value, within}
use Rattle.oe_model.specs.Positions as model
use Rattle.oe_model.specs.Payment.{paid_warehouse, paid_warehouse_out, paid_district, paid_district_out, paid_customer}
use Rattle.oe_model.specs.Payment.{paid_customer_out}
use Rattle.oe_model.specs.NewOrder.{with_next, next_out, item_at, stock_of, stock_after, stock_out}
use Rattle.oe_model.specs.Delivery.{Setting, alone, district_act, oldest, delivered_to, delivered_out}
use Rattle.oe_model.specs.Deliveries.{at_hand, among_ten}
use Rattle.oe_model.specs.System.{act, may_allocate}
use Rattle.oe_change.specs.Applies.{Renames}
use Rattle.oe_engine.specs.View.{EngineState, view_of, view_from}
use Rattle.oe_engine.specs.Calls.{WantsPlace}

-- a change that may want memory: an insert, or another last name of a customer
abbrev pub Wants : Change → Rows → Type 0
Wants c r = (is_insert c ≡ true) ⊎ Renames c r

-- where memory is wanted for the tables, it is one of these
pub wants_in : (s : EngineState) (c : Change) → WantsPlace (Some c) s.tables → Wants c (view_of s).rows
unfolding view_of view_from
wants_in s c h = elim h.1 [ inl i ↦ inl i.0 | inr r ↦ inr r ]

-- a stage that reads a row first, or looks at the ranges of columns, where it makes a change
given_goes : {A : Type 0} (e : Refusal) (o : Option A) (f : A → Doing) (c : Change) (z : model.Position)
    → with_value e o f ≡ Go (Some c) z → (a : A) × (o ≡ Some a) × (f a ≡ Go (Some c) z)
given_goes e None f c z h = let no : ⊥ = cc in absurd no
given_goes e (Some a) f c z h = (a, refl, h)

within_goes : (o : Option Column) (a : Doing) (c : Change) (z : model.Position) → within o a ≡ Go (Some c) z
    → a ≡ Go (Some c) z
within_goes None a c z h = h
within_goes (Some n) a c z h = let no : ⊥ = cc in absurd no

only_reads : (p : model.Position) (c : Change) (z : model.Position) → ◌≡◌ {A = Doing} (Go None p) (Go (Some c) z) → ⊥
only_reads p c z h = cc

-- a stage whose change wants none
wants_none : (d : Change) (p : model.Position) (c : Change) (z : model.Position) (r : Rows)
    → ◌≡◌ {A = Doing} (Go (Some d) p) (Go (Some c) z) → (Wants d r → ⊥) → Wants c r → ⊥
wants_none d p c z r h none w = none (subst (λ v. Wants v r) (the_change h) w)
  where
    the_change : ◌≡◌ {A = Doing} (Go (Some d) p) (Go (Some c) z) → c ≡ d
    the_change e = cc

-- an update of another row, or a delete
neither : (d : Change) (r : Rows) → is_insert d ≡ false → (Renames d r → ⊥) → Wants d r → ⊥
neither d r updates keeps (inl i) = let e : false ≡ true = sym updates ∙ i in cc
neither d r updates keeps (inr h) = keeps h

other : (d : Change) (p : model.Position) (c : Change) (z : model.Position) (r : Rows)
    → ◌≡◌ {A = Doing} (Go (Some d) p) (Go (Some c) z) → is_insert d ≡ false → (Renames d r → ⊥) → Wants c r → ⊥
other d p c z r h updates keeps = wants_none d p c z r h (neither d r updates keeps)

-- an update of a customer who keeps the last name
keeps_last : (r : Rows) (k : CustomerKey) (x y : Customer) → get r.customers k ≡ Some y → x.name.last ≡ y.name.last
    → Wants (UpdateCustomer k x) r → ⊥
keeps_last r k x y here same (inl i) = let no : ⊥ = cc in no
keeps_last r k x y here same (inr (z, is, differ)) =
    let one : Some y ≡ Some z = sym here ∙ is in
    let two : y ≡ z = cc in
    differ (same ∙ ap (λ (v : Customer). v.name.last) two)

payment_allocates : (x : Tx Request) (q : PaymentRequest) (p : model.PaymentPosition) (r : Rows) (c : Change)
    (z : model.Position) → act x (model.InPayment q p) r ≡ Go (Some c) z
    → Wants c r → may_allocate (model.InPayment q p) ≡ true
payment_allocates x q model.PaymentWarehouse r c z e i =
    let (y, at, f) = given_goes (NoSuchRow (key.Warehouse (warehouse_of_district q.district)))
    (get r.warehouses (warehouse_of_district q.district)) _ c z e in
    absurd (other _ _ c z r (within_goes (paid_warehouse_out (paid_warehouse q y)) _ c z f) refl (λ n. n) i)
payment_allocates x q (model.PaymentDistrict n) r c z e i =
    let (y, at, f) = given_goes (NoSuchRow (key.District q.district)) (get r.districts q.district) _ c z e in
    absurd (other _ _ c z r (within_goes (paid_district_out (paid_district q y)) _ c z f) refl (λ n. n) i)
payment_allocates x q (model.PaymentNames n d) r c z e i =
    let (k, at, f) = given_goes NoCustomer (customer_meant q.customer_district q.customer r.customers) _ c z e in
    let no : ⊥ = cc in absurd no
payment_allocates x q (model.PaymentCustomer n d k) r c z e i =
    let (y, at, f) = given_goes NoCustomer (get r.customers (customer_in q.customer_district k)) _ c z e in
    absurd (wants_none _ _ c z r (within_goes (paid_customer_out (paid_customer k q y)) _ c z f)
    (keeps_last r (customer_in q.customer_district k) (paid_customer k q y) y at refl) i)
payment_allocates x q (model.PaymentHistory d y) r c z e i = refl
payment_allocates x q (model.PaymentEnd y) r c z e i = let no : ⊥ = cc in absurd no

new_order_allocates : (x : Tx Request) (q : NewOrderRequest) (p : model.NewOrderPosition) (r : Rows) (c : Change)
    (z : model.Position)
    → act x (model.InNewOrder q p) r ≡ Go (Some c) z → Wants c r → may_allocate (model.InNewOrder q p) ≡ true
new_order_allocates x q model.NewOrderWarehouse r c z e i =
    let (y, at, f) = given_goes (NoSuchRow (key.Warehouse (warehouse_of_district q.district)))
    (get r.warehouses (warehouse_of_district q.district)) _ c z e in
    absurd (only_reads _ c z f)
new_order_allocates x q (model.NewOrderDistrict w) r c z e i =
    let (y, at, f) = given_goes (NoSuchRow (key.District q.district)) (get r.districts q.district) _ c z e in
    absurd (other _ _ c z r (within_goes (next_out (with_next y)) _ c z f) refl (λ n. n) i)
new_order_allocates x q (model.NewOrderCustomer o w d) r c z e i =
    let (y, at, f) = given_goes NoCustomer (get r.customers (customer_in q.district q.customer)) _ c z e in
    absurd (only_reads _ c z f)
new_order_allocates x q (model.NewOrderOrder y) r c z e i = refl
new_order_allocates x q (model.NewOrderQueue y) r c z e i = refl
new_order_allocates x q (model.NewOrderStock y before done []) r c z e i = let no : ⊥ = cc in absurd no
new_order_allocates x q (model.NewOrderStock y before done (l ∷ ls)) r c z e i =
    let (item, at, f) = given_goes InvalidItem (item_at l.item r.items) _ c z e in
    let (s, at, g) = given_goes (NoSuchRow (key.Stock (stock_of l))) (get r.stocks (stock_of l)) _ c z f in
    absurd (other _ _ c z r
    (within_goes (stock_out (stock_after q.district.warehouse (stock_of l) s l.quantity)) _ c z g) refl (λ n. n) i)
new_order_allocates x q (model.NewOrderLine y before done l f ls) r c z e i = refl

-- the oldest order is deleted, if there is one
queue_wants_none : (t : Setting) (q : DeliveryRequest) (o : Option ℕ) (r : Rows) (c : Change) (z : model.Position)
    → ◌≡◌ {A = Doing} (elim o [
      | None ↦ Go None (t.next Skipped)
      | Some n ↦ Go (Some (DeleteNewOrder (new_order_in q.district n))) (t.here (model.DeliveryOrder n))
    ]) (Go (Some c) z) → Wants c r → ⊥
queue_wants_none t q None r c z e i = only_reads _ c z e
queue_wants_none t q (Some n) r c z e i = other _ _ c z r e refl (λ n. n) i

-- no stage of a district's delivery wants any
district_wants_none : (t : Setting) (q : DeliveryRequest) (p : model.DeliveryPosition) (r : Rows) (c : Change)
    (z : model.Position) → district_act t q p r ≡ Go (Some c) z → Wants c r → ⊥
district_wants_none t q model.DeliveryQueue r c z e i =
    queue_wants_none t q (oldest q.district r.new_orders) r c z e i
district_wants_none t q model.DeliveryNothing r c z e i = cc
district_wants_none t q (model.DeliveryOrder o) r c z e i =
    let (y, at, f) = given_goes (NoSuchRow (key.Order (order_in q.district o)))
    (get r.orders (order_in q.district o)) _ c z e in other _ _ c z r f refl (λ n. n) i
district_wants_none t q (model.DeliveryLine o k (n ∷ ns) sum) r c z e i =
    let (y, at, f) = given_goes (NoSuchRow (key.OrderLine (line_in (order_in q.district o) n)))
    (get r.order_lines (line_in (order_in q.district o) n)) _ c z e in
    other _ _ c z r f refl (λ n. n) i
district_wants_none t q (model.DeliveryLine o k [] sum) r c z e i =
    let (y, at, f) = given_goes (NoSuchRow (key.Customer (customer_in q.district k)))
    (get r.customers (customer_in q.district k)) _ c z e in
    wants_none _ _ c z r (within_goes (delivered_out (delivered_to sum y)) _ c z f)
    (keeps_last r (customer_in q.district k) (delivered_to sum y) y at refl) i
district_wants_none t q (model.DeliveryEnd o k sum) r c z e i = cc

rename_allocates : (x : Tx Request) (q : RenameRequest) (p : model.RenamePosition) (r : Rows) (c : Change)
    (z : model.Position) → act x (model.InRename q p) r ≡ Go (Some c) z
    → Wants c r → may_allocate (model.InRename q p) ≡ true
rename_allocates x q model.RenameCustomer r c z e i =
    let (y, at, f) = given_goes NoCustomer (get r.customers q.customer) _ c z e in
    absurd (only_reads _ c z f)
rename_allocates x q (model.RenameOld last) r c z e i = absurd (only_reads _ c z e)
rename_allocates x q (model.RenameNew last) r c z e i = refl
rename_allocates x q (model.RenameEnd last) r c z e i = let no : ⊥ = cc in absurd no

pub allocates : (x : Tx Request) (p : model.Position) (r : Rows) (c : Change) (z : model.Position)
    → act x p r ≡ Go (Some c) z → Wants c r → may_allocate p ≡ true
allocates x (model.InPayment q p) r c z e i = payment_allocates x q p r c z e i
allocates x (model.InNewOrder q p) r c z e i = new_order_allocates x q p r c z e i
allocates x (model.InDelivery q p) r c z e i = absurd (district_wants_none (alone q) q p r c z e i)
allocates x (model.InDeliveries q done p) r c z e i =
    absurd (district_wants_none (among_ten q done) (at_hand q done) p r c z e i)
allocates x (model.DeliveriesEnd done) r c z e i = let no : ⊥ = cc in absurd no
allocates x (model.InRename q p) r c z e i = rename_allocates x q p r c z e i
