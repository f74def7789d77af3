-- How many rows a program has left before its commit, and that a row which goes on leaves fewer.
use Rattle.std.proofs.Common.{◌≡◌, ℕ, zero, suc, ◌+◌, ◌-◌, ◌*◌, ◌<◌, ◌==◌, cond, Bool, true, false, Option, None, Some}
use Rattle.std.proofs.Common.{List, [], ◌∷◌, ◌++◌, map, length, refl, sym, ap, ◌∙◌, subst, arith, inl, inr}
use Rattle.std.proofs.Common.{length-append}
use Rattle.std.specs.Prelude.{◌⊎◌}
use Rattle.std.specs.Ordering.{eq_by_cmp}
use Rattle.std.specs.FinMap.{FinMap, get, insert, remove, entries}
use Rattle.std.proofs.lemmas.List.{length-map}
use Rattle.std.proofs.lemmas.Bool.{eqb-true, eqb-false}
use Rattle.oe_theory.specs.Machine.{Go, Tx}
use Rattle.oe_theory.specs.Undo.{with_change}
use Rattle.oe_rows.specs.Key.{district_cmp, new_order_cmp, order_cmp, order_line_cmp}
use Rattle.oe_rows.specs.declared.keys.DistrictKey.{DistrictKey}
use Rattle.oe_rows.specs.declared.keys.NewOrderKey.{NewOrderKey}
use Rattle.oe_rows.specs.declared.keys.OrderLineKey.{OrderLineKey}
use Rattle.oe_rows.specs.declared.keys.Key.TheVariants as key
use Rattle.oe_rows.specs.declared.orders.NewOrder.{NewOrder}
use Rattle.oe_rows.specs.declared.orders.OrderLine.{OrderLine}
use Rattle.oe_requests.specs.declared.requests.CustomerChoice.{CustomerChoice}
use Rattle.oe_requests.specs.declared.requests.CustomerChoice.TheVariants.{Number, LastName}
use Rattle.oe_requests.specs.declared.requests.PaymentRequest.{PaymentRequest}
use Rattle.oe_requests.specs.declared.requests.NewOrderRequest.{NewOrderRequest}
use Rattle.oe_requests.specs.declared.requests.DeliveryRequest.{DeliveryRequest}
use Rattle.oe_requests.specs.declared.requests.DeliveriesRequest.{DeliveriesRequest}
use Rattle.oe_requests.specs.declared.requests.RenameRequest.{RenameRequest}
use Rattle.oe_requests.specs.declared.requests.Request.{Request}
use Rattle.oe_requests.specs.declared.replies.DistrictDelivery.{DistrictDelivery}
use Rattle.oe_requests.specs.declared.replies.DistrictDelivery.TheVariants.{Skipped}
use Rattle.oe_requests.specs.declared.refusals.Refusal.TheVariants as refusal
use Rattle.oe_rows.proofs.KeyFacts.{district_total, exact_district, new_order_total, exact_new_order, order_total}
use Rattle.oe_rows.proofs.KeyFacts.{exact_order, order_line_total, exact_order_line}
use Rattle.oe_model.specs.Keys.{warehouse_of_district, district_of_new_order, district_of_order, order_of_line}
use Rattle.oe_model.specs.Keys.{customer_in, order_in, new_order_in, line_in}
use Rattle.oe_model.specs.Rows.{Rows}
use Rattle.oe_model.specs.Changes.{Change, InsertHistory, InsertNewOrder, InsertOrder, InsertOrderLine, UpdateWarehouse}
use Rattle.oe_model.specs.Changes.{UpdateDistrict, UpdateCustomer, UpdateOrder, UpdateOrderLine, UpdateStock}
use Rattle.oe_model.specs.Changes.{DeleteNewOrder}
use Rattle.oe_model.specs.Choice.{customer_meant}
use Rattle.oe_model.specs.Effects.{Doing}
use Rattle.oe_model.specs.Positions.{Position, InPayment, InNewOrder, InDelivery, InDeliveries, DeliveriesEnd}
use Rattle.oe_model.specs.Payment.{behind_district}
use Rattle.oe_model.specs.Positions.{PaymentPosition, PaymentWarehouse, PaymentDistrict, PaymentNames}
use Rattle.oe_model.specs.Positions.{PaymentCustomer, PaymentHistory, PaymentEnd, NewOrderPosition, NewOrderWarehouse}
use Rattle.oe_model.specs.Positions.{NewOrderDistrict, NewOrderCustomer, NewOrderOrder, NewOrderQueue, NewOrderStock}
use Rattle.oe_model.specs.Positions.{NewOrderLine}
use Rattle.oe_model.specs.Positions.{DeliveryPosition, DeliveryQueue, DeliveryNothing, DeliveryOrder, DeliveryLine}
use Rattle.oe_model.specs.Positions.{DeliveryEnd, RenamePosition, RenameCustomer, RenameOld, RenameNew, RenameEnd}
use Rattle.oe_model.specs.Positions.{InRename}
use Rattle.oe_model.specs.NewOrder.{item_at, stock_of}
use Rattle.oe_model.specs.Delivery.{Setting, end_of, alone, new_orders_of, oldest, lines_of, delivery_of_order}
use Rattle.oe_model.specs.Delivery.{district_act}
use Rattle.oe_model.specs.Deliveries.{in_district, at_hand, after_done, among_ten}
use Rattle.oe_model.specs.System.{system, act}
use Rattle.oe_model.proofs.MapFacts.{is_same}
use Rattle.oe_model.proofs.EntryFacts.{same_kept}
use Rattle.oe_model.proofs.PresenceFacts.{key_cases, get_other, gone_other}
use Rattle.oe_model.proofs.LawFacts.{given_goes, within_goes}
use Rattle.oe_admission.specs.Programs.{IsServed}

-- as many rows as a delivery of the oldest order still has, from its queue on
abbrev pub rank_waiting : DeliveryRequest → Rows → Option ℕ → ℕ
rank_waiting q r None = 1
rank_waiting q r (Some o) = 3 + length (lines_of (order_in q.district o) r.order_lines)

-- how many rows the delivery of a district has left, with these tables
abbrev pub district_rank : DeliveryRequest → Rows → DeliveryPosition → ℕ
district_rank q r DeliveryQueue = rank_waiting q r (oldest q.district r.new_orders)
district_rank q r DeliveryNothing = 0
district_rank q r (DeliveryOrder o) = 2 + length (lines_of (order_in q.district o) r.order_lines)
district_rank q r (DeliveryLine o c ns sum) = 1 + length ns
district_rank q r (DeliveryEnd o c sum) = 0

-- and the deliveries of n districts from d on
abbrev pub rank_from : DeliveriesRequest → Rows → ℕ → ℕ → ℕ
rank_from q r d zero = 0
rank_from q r d (suc n) = district_rank (in_district q d) r DeliveryQueue + rank_from q r (d + 1) n

-- how many rows of its program a transaction has left before its commit, with these tables
abbrev pub rank : Rows → Position → ℕ
rank r (InPayment q PaymentWarehouse) = 5
rank r (InPayment q (PaymentDistrict w)) = 4
rank r (InPayment q (PaymentNames w d)) = 3
rank r (InPayment q (PaymentCustomer w d c)) = 2
rank r (InPayment q (PaymentHistory d y)) = 1
rank r (InPayment q (PaymentEnd y)) = 0
rank r (InNewOrder q NewOrderWarehouse) = 5 + 2 * length q.lines
rank r (InNewOrder q (NewOrderDistrict w)) = 4 + 2 * length q.lines
rank r (InNewOrder q (NewOrderCustomer o w d)) = 3 + 2 * length q.lines
rank r (InNewOrder q (NewOrderOrder s)) = 2 + 2 * length q.lines
rank r (InNewOrder q (NewOrderQueue s)) = 1 + 2 * length q.lines
rank r (InNewOrder q (NewOrderStock s before done ls)) = 2 * length ls
rank r (InNewOrder q (NewOrderLine s before done l f ls)) = 1 + 2 * length ls
rank r (InDelivery q p) = district_rank q r p
rank r (InDeliveries q done p) = district_rank (at_hand q done) r p + rank_from q r (length done + 2) (9 - length done)
rank r (DeliveriesEnd done) = 0
rank r (InRename q RenameCustomer) = 3
rank r (InRename q (RenameOld last)) = 2
rank r (InRename q (RenameNew last)) = 1
rank r (InRename q (RenameEnd last)) = 0

-- a row that goes on leads to such a position, with fewer rows left in the tables after it
abbrev pub Falls : Rows → ℕ → Doing → Type 0
Falls r n (Go c z) = IsServed z × (rank (with_change system (Go c z) r) z < n)
Falls r n d = Unit {0}

lands : (r : Rows) (d c : Option Change) (p z : Position) (n : ℕ) → ◌≡◌ {A = Doing} (Go d p) (Go c z) → IsServed p
    → rank (with_change system (Go d p) r) p < n → Falls r n (Go c z)
lands r d c p z n e a b = subst (Falls r n) e (a, b)

-- the district's stage leads to the customer, of a payment by name past the names
behind_lands : (r : Rows) (d c : Option Change) (z : Position) (q : PaymentRequest) (who : CustomerChoice)
    (w n : List ℕ) → ◌≡◌ {A = Doing} (Go d (InPayment q (behind_district who w n))) (Go c z) → Falls r 4 (Go c z)
behind_lands r d c z q (Number b) w n e =
    let less : 2 < 4 = omega arith in
    lands r d c _ z 4 e tt less
behind_lands r d c z q (LastName last) w n e =
    let less : 3 < 4 = omega arith in
    lands r d c _ z 4 e tt less

payment_goes : (x : Tx Request) (q : PaymentRequest) (p : PaymentPosition) (r : Rows) (c : Option Change) (z : Position)
    → act x (InPayment q p) r ≡ Go c z
    → Falls r (rank r (InPayment q p)) (Go c z)
payment_goes x q PaymentWarehouse r c z e =
    let (y, here, e1) = given_goes (refusal.NoSuchRow (key.Warehouse (warehouse_of_district q.district)))
    (get r.warehouses (warehouse_of_district q.district)) _ c z e in
    let less : 4 < 5 = omega arith in
    lands r _ c _ z 5 (within_goes _ _ c z e1) tt less
payment_goes x q (PaymentDistrict w) r c z e =
    let (y, here, e1) = given_goes (refusal.NoSuchRow (key.District q.district)) (get r.districts q.district) _ c z e in
    behind_lands r _ c z q q.customer w y.name (within_goes _ _ c z e1)
payment_goes x q (PaymentNames w d) r c z e =
    let (b, found, e1) = given_goes refusal.NoCustomer
    (customer_meant q.customer_district q.customer r.customers) _ c z e in
    let less : 2 < 3 = omega arith in
    lands r _ c _ z 3 e1 tt less
payment_goes x q (PaymentCustomer w d b) r c z e =
    let (y, here, e1) = given_goes refusal.NoCustomer (get r.customers (customer_in q.customer_district b)) _ c z e in
    let less : 1 < 2 = omega arith in
    lands r _ c _ z 2 (within_goes _ _ c z e1) tt less
payment_goes x q (PaymentHistory d y) r c z e =
    let less : 0 < 1 = omega arith in
    lands r _ c _ z 1 e tt less
payment_goes x q (PaymentEnd y) r c z e = let no : ⊥ = cc in absurd no

new_order_goes : (x : Tx Request) (q : NewOrderRequest) (p : NewOrderPosition) (r : Rows) (c : Option Change)
    (z : Position) → act x (InNewOrder q p) r ≡ Go c z
    → Falls r (rank r (InNewOrder q p)) (Go c z)
new_order_goes x q NewOrderWarehouse r c z e =
    let (y, here, e1) = given_goes (refusal.NoSuchRow (key.Warehouse (warehouse_of_district q.district)))
    (get r.warehouses (warehouse_of_district q.district)) _ c z e in
    let less : 4 + 2 * length q.lines < 5 + 2 * length q.lines = omega arith in
    lands r _ c _ z (5 + 2 * length q.lines) e1 tt less
new_order_goes x q (NewOrderDistrict w) r c z e =
    let (y, here, e1) = given_goes (refusal.NoSuchRow (key.District q.district)) (get r.districts q.district) _ c z e in
    let less : 3 + 2 * length q.lines < 4 + 2 * length q.lines = omega arith in
    lands r _ c _ z (4 + 2 * length q.lines) (within_goes _ _ c z e1) tt less
new_order_goes x q (NewOrderCustomer o w d) r c z e =
    let (y, here, e1) = given_goes refusal.NoCustomer (get r.customers (customer_in q.district q.customer)) _ c z e in
    let less : 2 + 2 * length q.lines < 3 + 2 * length q.lines = omega arith in
    lands r _ c _ z (3 + 2 * length q.lines) e1 tt less
new_order_goes x q (NewOrderOrder s) r c z e =
    let less : 1 + 2 * length q.lines < 2 + 2 * length q.lines = omega arith in
    lands r _ c _ z (2 + 2 * length q.lines) e tt less
new_order_goes x q (NewOrderQueue s) r c z e =
    let less : 2 * length q.lines < 1 + 2 * length q.lines = omega arith in
    lands r _ c _ z (1 + 2 * length q.lines) e tt less
new_order_goes x q (NewOrderStock s before done []) r c z e = let no : ⊥ = cc in absurd no
new_order_goes x q (NewOrderStock s before done (l ∷ ls)) r c z e =
    let (item, found, e1) = given_goes refusal.InvalidItem (item_at l.item r.items) _ c z e in
    let (y, here, e2) = given_goes (refusal.NoSuchRow (key.Stock (stock_of l))) (get r.stocks (stock_of l)) _ c z e1 in
    let less : 1 + 2 * length ls < 2 * length (l ∷ ls) = omega arith in
    lands r _ c _ z (2 * length (l ∷ ls)) (within_goes _ _ c z e2) tt less
new_order_goes x q (NewOrderLine s before done l f ls) r c z e =
    let less : 2 * length ls < 1 + 2 * length ls = omega arith in
    lands r _ c _ z (1 + 2 * length ls) e tt less

rename_goes : (x : Tx Request) (q : RenameRequest) (p : RenamePosition) (r : Rows) (c : Option Change) (z : Position)
    → act x (InRename q p) r ≡ Go c z
    → Falls r (rank r (InRename q p)) (Go c z)
rename_goes x q RenameCustomer r c z e =
    let (y, here, e1) = given_goes refusal.NoCustomer (get r.customers q.customer) _ c z e in
    let less : 2 < 3 = omega arith in
    lands r _ c _ z 3 e1 tt less
rename_goes x q (RenameOld last) r c z e =
    let less : 1 < 2 = omega arith in
    lands r _ c _ z 2 e tt less
rename_goes x q (RenameNew last) r c z e =
    let (y, here, e1) = given_goes refusal.NoCustomer (get r.customers q.customer) _ c z e in
    let less : 0 < 1 = omega arith in
    lands r _ c _ z 1 e1 tt less
rename_goes x q (RenameEnd last) r c z e = let no : ⊥ = cc in absurd no

-- A STAGE OF A DISTRICT'S DELIVERY

-- a change, if there is one, leaves the queue and the lines of other districts
abbrev IsOfDistrict : DistrictKey → Option Change → Type 0
IsOfDistrict h None = Unit {0}
IsOfDistrict h (Some (DeleteNewOrder k)) = district_of_new_order k ≡ h
IsOfDistrict h (Some (UpdateOrderLine k x)) = district_of_order (order_of_line k) ≡ h
IsOfDistrict h (Some (UpdateOrder k x)) = Unit {0}
IsOfDistrict h (Some (UpdateCustomer k x)) = Unit {0}
IsOfDistrict h (Some _) = ⊥

-- a row that goes on leads to a position of the district with fewer rows left, or past the district
abbrev Moves : Setting → DeliveryRequest → ℕ → Rows → Doing → Type 0
Moves t q n r (Go c z) =
    IsOfDistrict q.district c
    × (((p : DeliveryPosition) × (z ≡ t.here p) × (district_rank q (with_change system (Go c z) r) p < n))
    ⊎ ((d : DistrictDelivery) × (z ≡ t.next d) × (0 < n)))
Moves t q n r d = Unit {0}

-- the first row deletes a NEW-ORDER row, which leaves the lines of the order
abbrev on_oldest : Setting → DeliveryRequest → Option ℕ → Doing
on_oldest t q o =
    elim o [
      | None ↦ Go None (t.next Skipped)
      | Some o ↦ Go (Some (DeleteNewOrder (new_order_in q.district o))) (t.here (DeliveryOrder o))
    ]

queue_moves : (t : Setting) (q : DeliveryRequest) (r : Rows) (o : Option ℕ)
    → Moves t q (rank_waiting q r o) r (on_oldest t q o)
queue_moves t q r None = let less : 0 < 1 = omega arith in (tt, inr (Skipped, refl, less))
queue_moves t q r (Some o) =
    let n : ℕ = length (lines_of (order_in q.district o) r.order_lines) in
    let less : 2 + n < 3 + n = omega arith in
    (refl, inl (DeliveryOrder o, refl, less))

moved : (t : Setting) (q : DeliveryRequest) (n : ℕ) (r : Rows) (d c : Option Change) (v z : Position)
    → ◌≡◌ {A = Doing} (Go d v) (Go c z) → Moves t q n r (Go d v) → Moves t q n r (Go c z)
moved t q n r d c v z e m = subst (Moves t q n r) e m

district_goes : (t : Setting) (q : DeliveryRequest) (p : DeliveryPosition) (r : Rows) (c : Option Change) (z : Position)
    → district_act t q p r ≡ Go c z
    → Moves t q (district_rank q r p) r (Go c z)
district_goes t q DeliveryQueue r c z e = subst (Moves t q (district_rank q r DeliveryQueue) r) e
    (queue_moves t q r (oldest q.district r.new_orders))
district_goes t q DeliveryNothing r c z e = let no : ⊥ = cc in absurd no
district_goes t q (DeliveryOrder o) r c z e =
    let (y, here, e1) = given_goes (refusal.NoSuchRow (key.Order (order_in q.district o)))
    (get r.orders (order_in q.district o)) _ c z e in
    let ls = lines_of (order_in q.district o) r.order_lines in
    let numbers : length (map (λ e. e.0.number) ls) ≡ length ls = length-map ls (λ e. e.0.number) in
    let less : 1 + length (map (λ e. e.0.number) ls) < 2 + length ls = omega (arith, numbers) in
    moved t q (2 + length ls) r _ c _ z e1
    (tt, inl (DeliveryLine o y.customer (map (λ e. e.0.number) ls) 0, refl, less))
district_goes t q (DeliveryLine o k [] sum) r c z e =
    let (y, here, e1) = given_goes (refusal.NoSuchRow (key.Customer (customer_in q.district k)))
    (get r.customers (customer_in q.district k)) _ c z e in
    let less : 0 < 1 = omega arith in
    moved t q 1 r _ c _ z (within_goes _ _ c z e1) (tt, inr (delivery_of_order o k sum, refl, less))
district_goes t q (DeliveryLine o k (n ∷ ns) sum) r c z e =
    let (y, here, e1) = given_goes (refusal.NoSuchRow (key.OrderLine (line_in (order_in q.district o) n)))
    (get r.order_lines (line_in (order_in q.district o) n)) _ c z e in
    let less : 1 + length ns < 1 + length (n ∷ ns) = omega arith in
    moved t q (1 + length (n ∷ ns)) r _ c _ z e1 (refl, inl (DeliveryLine o k ns (sum + y.amount), refl, less))
district_goes t q (DeliveryEnd o k sum) r c z e = let no : ⊥ = cc in absurd no

-- a district alone: what follows it has no row left
ended : (d : DistrictDelivery) (q : DeliveryRequest) (r : Rows) → district_rank q r (end_of d) ≡ 0
ended Skipped q r = refl
ended _ q r = refl

delivery_goes : (x : Tx Request) (q : DeliveryRequest) (p : DeliveryPosition) (r : Rows) (c : Option Change)
    (z : Position) → act x (InDelivery q p) r ≡ Go c z
    → Falls r (rank r (InDelivery q p)) (Go c z)
delivery_goes x q p r c z e = go (district_goes (alone q) q p r c z e).1
  where
    n : ℕ
    n = district_rank q r p

    s : Rows
    s = with_change system (Go c z) r

    go : ((o : DeliveryPosition) × (z ≡ InDelivery q o) × (district_rank q s o < n))
        ⊎ ((d : DistrictDelivery) × (z ≡ InDelivery q (end_of d)) × (0 < n)) → Falls r n (Go c z)
    go (inl (o, is, less)) = subst (λ v. IsServed v × (rank s v < n)) (sym is) (tt, less)
    go (inr (d, is, less)) = subst (λ v. IsServed v × (rank s v < n)) (sym is)
        (tt, (let none = ended d q s in let z : district_rank q s (end_of d) < n = omega (arith, none, less) in z))

-- OTHER DISTRICTS WAIT AS BEFORE

-- no key of the one district is a key of the other
other_new_order : (g h : DistrictKey) → (g ≡ h → ⊥) → (k : NewOrderKey) → district_of_new_order k ≡ h
    → (j : NewOrderKey) → eq_by_cmp district_cmp (district_of_new_order j) g ≡ true
    → eq_by_cmp new_order_cmp j k ≡ false
other_new_order g h apart k of j e = by (key_cases new_order_total exact_new_order j k)
  where
    by : (j ≡ k) ⊎ (eq_by_cmp new_order_cmp j k ≡ false) → eq_by_cmp new_order_cmp j k ≡ false
    by (inl s) = absurd (apart (sym (is_same district_total exact_district (district_of_new_order j) g e)
        ∙ ap district_of_new_order s ∙ of))
    by (inr n) = n

other_line : (g h : DistrictKey) → (g ≡ h → ⊥) → (k : OrderLineKey) → district_of_order (order_of_line k) ≡ h
    → (o : ℕ) (j : OrderLineKey)
    → eq_by_cmp order_cmp (order_of_line j) (order_in g o) ≡ true → eq_by_cmp order_line_cmp j k ≡ false
other_line g h apart k of o j e = by (key_cases order_line_total exact_order_line j k)
  where
    by : (j ≡ k) ⊎ (eq_by_cmp order_line_cmp j k ≡ false) → eq_by_cmp order_line_cmp j k ≡ false
    by (inl s) = absurd (apart
        (ap district_of_order (sym (is_same order_total exact_order (order_of_line j) (order_in g o) e))
        ∙ ap (λ (l : OrderLineKey). district_of_order (order_of_line l)) s ∙ of))
    by (inr n) = n

same_waiting : (h : DistrictKey) (c : Option Change) (z : Position) (r : Rows) (q : DeliveryRequest) → IsOfDistrict h c
    → (q.district ≡ h → ⊥)
    → district_rank q (with_change system (Go c z) r) DeliveryQueue ≡ district_rank q r DeliveryQueue
same_waiting h None z r q of apart = refl
same_waiting h (Some (DeleteNewOrder k)) z r q of apart =
    let g : DistrictKey = q.district in
    let one : new_orders_of g (remove r.new_orders k) ≡ new_orders_of g r.new_orders =
    same_kept new_order_total exact_new_order (λ j. eq_by_cmp district_cmp (district_of_new_order j) g)
    (remove r.new_orders k) r.new_orders
    (λ j e. gone_other new_order_total exact_new_order r.new_orders k j (other_new_order g h apart k of j e)) in
    ap (λ (m : FinMap new_order_cmp NewOrder).
    let v : Option ℕ = elim (entries m) [ [] ↦ None | e ∷ es ↦ Some e.0.order ] in rank_waiting q r v) one
same_waiting h (Some (UpdateOrderLine k x)) z r q of apart = by (oldest q.district r.new_orders)
  where
    g : DistrictKey
    g = q.district

    same : (o : ℕ) → lines_of (order_in g o) (insert r.order_lines k x) ≡ lines_of (order_in g o) r.order_lines
    same o =
        ap (λ (m : FinMap order_line_cmp OrderLine). entries m)
        (same_kept order_line_total exact_order_line (λ l. eq_by_cmp order_cmp (order_of_line l) (order_in g o))
        (insert r.order_lines k x) r.order_lines
        (λ j e. get_other order_line_total exact_order_line r.order_lines k x j (other_line g h apart k of o j e)))

    by : (v : Option ℕ) → rank_waiting q (record r { order_lines = insert r.order_lines k x }) v ≡ rank_waiting q r v
    by None = refl
    by (Some o) = ap (λ (ls : List (OrderLineKey × OrderLine)). 3 + length ls) (same o)
same_waiting h (Some (UpdateOrder k x)) z r q of apart = refl
same_waiting h (Some (UpdateCustomer k x)) z r q of apart = refl
same_waiting h (Some (InsertHistory k x)) z r q of apart = absurd of
same_waiting h (Some (InsertNewOrder k x)) z r q of apart = absurd of
same_waiting h (Some (InsertOrder k x)) z r q of apart = absurd of
same_waiting h (Some (InsertOrderLine k x)) z r q of apart = absurd of
same_waiting h (Some (UpdateWarehouse k x)) z r q of apart = absurd of
same_waiting h (Some (UpdateDistrict k x)) z r q of apart = absurd of
same_waiting h (Some (UpdateStock k x)) z r q of apart = absurd of

-- a stage of a district leaves those that come later
same_from : (q : DeliveriesRequest) (k : ℕ) (c : Option Change) (z : Position) (r : Rows)
    → IsOfDistrict (in_district q k).district c → (n d : ℕ) → k < d
    → rank_from q (with_change system (Go c z) r) d n ≡ rank_from q r d n
same_from q k c z r of zero d less = refl
same_from q k c z r of (suc n) d less =
    let here = same_waiting (in_district q k).district c z r (in_district q d) of
    (λ s. let e : d ≡ k = ap (λ (h : DistrictKey). h.district) s in let no : ⊥ = omega (arith, e, less) in no) in
    let later = same_from q k c z r of n (d + 1) (omega (arith, less)) in
    omega (arith, here, later)

-- past the district at hand stand those that come later
next_place : (q : DeliveriesRequest) (done : List DistrictDelivery) (d : DistrictDelivery) (r : Rows) → length done < 10
    → IsServed (after_done q (done ++ d ∷ []))
    × (rank r (after_done q (done ++ d ∷ [])) ≡ rank_from q r (length done + 2) (9 - length done))
next_place q done d r few = by (length now == 10) refl
  where
    now : List DistrictDelivery
    now = done ++ d ∷ []

    one_more : length now ≡ length done + 1
    one_more = length-append done (d ∷ [])

    P : Position → Type 0
    P p = IsServed p × (rank r p ≡ rank_from q r (length done + 2) (9 - length done))

    by : (b : Bool) → (length now == 10) ≡ b → P (cond b (DeliveriesEnd now) (InDeliveries q now DeliveryQueue))
    by true e =
        let all = eqb-true (length now) 10 e in
        let none : 9 - length done ≡ 0 = omega (arith, all, one_more) in
        (tt, ap (rank_from q r (length done + 2)) (sym none))
    by false e =
        let less : length now < 10 = few_left (eqb-false (length now) 10 e) in
        let left : 9 - length done ≡ suc (9 - length now) = omega (arith, less, one_more) in
        let here : length now + 1 ≡ length done + 2 = omega (arith, one_more) in
        let later : length now + 2 ≡ length done + 2 + 1 = omega (arith, one_more) in (
          less,
          ap (λ (i : ℕ). district_rank (in_district q i) r DeliveryQueue + rank_from q r (length now + 2)
              (9 - length now)) here
              ∙ ap (λ (i : ℕ). district_rank (in_district q (length done + 2)) r DeliveryQueue + rank_from q r i
              (9 - length now)) later
              ∙ ap (rank_from q r (length done + 2)) (sym left),
        )
      where
        below : (n : ℕ) → n < 11 → (n ≡ 10 → ⊥) → n < 10
        below n less other = omega (arith, less, other)

        few_left : (length now ≡ 10 → ⊥) → length now < 10
        few_left other = below (length now) (let z : length now < 11 = omega (arith, few, one_more) in z) other

deliveries_goes : (x : Tx Request) (q : DeliveriesRequest) (done : List DistrictDelivery) (p : DeliveryPosition)
    (r : Rows) (c : Option Change) (z : Position)
    → length done < 10 → act x (InDeliveries q done p) r ≡ Go c z → Falls r (rank r (InDeliveries q done p)) (Go c z)
deliveries_goes x q done p r c z few e = go moves.1
  where
    hand : DeliveryRequest
    hand = at_hand q done

    s : Rows
    s = with_change system (Go c z) r

    moves : Moves (among_ten q done) hand (district_rank hand r p) r (Go c z)
    moves = district_goes (among_ten q done) hand p r c z e

    same : rank_from q s (length done + 2) (9 - length done) ≡ rank_from q r (length done + 2) (9 - length done)
    same = same_from q (length done + 1) c z r moves.0 (9 - length done) (length done + 2)
        (let less : length done + 1 < length done + 2 = omega arith in less)

    n : ℕ
    n = rank r (InDeliveries q done p)

    go : ((o : DeliveryPosition) × (z ≡ InDeliveries q done o) × (district_rank hand s o < district_rank hand r p))
        ⊎ ((d : DistrictDelivery) × (z ≡ after_done q (done ++ d ∷ [])) × (0 < district_rank hand r p))
        → Falls r n (Go c z)
    go (inl (o, is, less)) =
        let falls : rank s (InDeliveries q done o) < n = omega (arith, less, same) in
        subst (λ v. IsServed v × (rank s v < n)) (sym is) (few, falls)
    go (inr (d, is, less)) =
        let next = next_place q done d s few in
        let falls : rank s (after_done q (done ++ d ∷ [])) < n = omega (arith, less, same, next.1) in
        subst (λ v. IsServed v × (rank s v < n)) (sym is) (next.0, falls)

pub goes : (x : Tx Request) (p : Position) (r : Rows) (c : Option Change) (z : Position) → IsServed p
    → act x p r ≡ Go c z → Falls r (rank r p) (Go c z)
goes x (InPayment q p) r c z h e = payment_goes x q p r c z e
goes x (InNewOrder q p) r c z h e = new_order_goes x q p r c z e
goes x (InDelivery q p) r c z h e = delivery_goes x q p r c z e
goes x (InDeliveries q done p) r c z h e = deliveries_goes x q done p r c z h e
goes x (DeliveriesEnd done) r c z h e = let no : ⊥ = cc in absurd no
goes x (InRename q p) r c z h e = rename_goes x q p r c z e
