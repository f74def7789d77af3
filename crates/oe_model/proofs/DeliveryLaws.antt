-- The rows of a district's delivery read and write only what their locks allow, alone and among ten districts.
use Rattle.std.proofs.Common.{◌≡◌, ◌++◌, ℕ, ◌+◌, refl, sym, ap, subst, Bool, true, false, cond, List, [], ◌∷◌, map}
use Rattle.std.proofs.Common.{Option, Some, None, inl}
use Rattle.std.specs.Prelude.{◌==◌, length}
use Rattle.std.specs.Ordering.{eq_by_cmp}
use Rattle.std.specs.FinMap.{FinMap, get, entries}
use Rattle.oe_theory.specs.Machine.{Mode, Shared, Go, Tx, Hold}
use Rattle.oe_theory.specs.Laws.{Holds, with_asked, Alike}
use Rattle.oe_rows.specs.Key.{district_cmp, new_order_cmp, order_cmp, order_line_cmp}
use Rattle.oe_rows.specs.declared.keys.DistrictKey.{DistrictKey}
use Rattle.oe_rows.specs.declared.keys.OrderKey.{OrderKey}
use Rattle.oe_rows.specs.declared.keys.OrderLineKey.{OrderLineKey}
use Rattle.oe_rows.specs.declared.keys.Key.TheVariants as key
use Rattle.oe_rows.specs.declared.orders.NewOrder.{NewOrder}
use Rattle.oe_rows.specs.declared.orders.OrderLine.{OrderLine}
use Rattle.oe_rows.specs.declared.locks.Name.{Name}
use Rattle.oe_rows.specs.declared.locks.Name.TheVariants as name
use Rattle.oe_requests.specs.declared.requests.Request.{Request}
use Rattle.oe_requests.specs.declared.requests.DeliveryRequest.{DeliveryRequest}
use Rattle.oe_requests.specs.declared.requests.DeliveriesRequest.{DeliveriesRequest}
use Rattle.oe_requests.specs.declared.replies.DistrictDelivery.{DistrictDelivery}
use Rattle.oe_requests.specs.declared.replies.DistrictDelivery.TheVariants.{Skipped}
use Rattle.oe_requests.specs.declared.refusals.Refusal.TheVariants.{NoSuchRow}
use Rattle.oe_rows.proofs.KeyFacts.{district_total, exact_district, new_order_total, exact_new_order, order_total}
use Rattle.oe_rows.proofs.KeyFacts.{exact_order, order_line_total, exact_order_line}
use Rattle.oe_model.specs.Keys.{district_of_new_order, order_of_line, customer_in, order_in, new_order_in, line_in}
use Rattle.oe_model.specs.Rows.{Rows, row_at}
use Rattle.oe_model.specs.Changes.{Change, DeleteNewOrder, UpdateOrder, UpdateOrderLine, UpdateCustomer}
use Rattle.oe_model.specs.Positions.{Position, InDeliveries, DeliveriesEnd, DeliveryPosition, DeliveryQueue}
use Rattle.oe_model.specs.Positions.{DeliveryNothing, DeliveryOrder, DeliveryLine, DeliveryEnd}
use Rattle.oe_model.specs.Effects.{Doing, with_value}
use Rattle.oe_model.specs.Delivery.{new_orders_of, oldest, lines_of, with_date, with_carrier, delivery_of_order}
use Rattle.oe_model.specs.Delivery.{delivered_to, Setting}
use Rattle.oe_model.specs.Delivery.{end_of, alone, delivery_ask, district_act, delivery_taken}
use Rattle.oe_model.specs.Deliveries.{at_hand, among_ten}
use Rattle.oe_model.specs.System.{system, locks_before}
use Rattle.oe_model.proofs.MapFacts.{is_same}
use Rattle.oe_model.proofs.EntryFacts.{same_kept}
use Rattle.oe_model.proofs.RowFacts.{un_customer, un_new_order, un_order, un_order_line}
use Rattle.oe_model.proofs.LawFacts.{given_same, given_goes, within_goes, IsLawfulBy, lawful_as, changes_none}
use Rattle.oe_model.proofs.LawFacts.{changes_plain, Recalls, keeps_delete, keeps_carrier, keeps_date, keeps_customer}

pub delivery_ask_same : (q : DeliveryRequest) (p : DeliveryPosition) (r s : Rows)
    → delivery_ask q p r ≡ delivery_ask q p s
delivery_ask_same q (DeliveryLine o c [] sum) r s = refl
delivery_ask_same q _ r s = refl

-- the names that are held in a stage of a district
abbrev pub district_held : DeliveryRequest → DeliveryPosition → Rows → List (Hold Name)
district_held q p r = with_asked system (delivery_ask q p r) (delivery_taken q p)

first : Setting → DeliveryRequest → Option ℕ → Doing
first t q v = elim v [
  | None ↦ Go None (t.next Skipped)
  | Some o ↦ Go (Some (DeleteNewOrder (new_order_in q.district o)))
      (t.here (DeliveryOrder o))
]

module _ (P : Name → Mode → Type 0) (x : Tx Request) (r s : Rows) (alike : Alike system P x r s) where
  -- the lock of a queue tells its oldest order
  same_oldest : (h : DistrictKey) → P (name.Queue h) Shared → oldest h r.new_orders ≡ oldest h s.new_orders
  same_oldest h held =
      let one : new_orders_of h r.new_orders ≡ new_orders_of h s.new_orders =
      same_kept new_order_total exact_new_order (λ k. eq_by_cmp district_cmp (district_of_new_order k) h) r.new_orders
      s.new_orders (λ k e.
      un_new_order _ _ (alike.rows (key.NewOrder k)
      (subst (λ (d : DistrictKey). P (name.Queue d) Shared)
      (sym (is_same district_total exact_district (district_of_new_order k) h e)) held))) in
      ap (λ (m : FinMap new_order_cmp NewOrder).
      let v : Option ℕ = elim (entries m) [ [] ↦ None | e ∷ es ↦ Some e.0.order ] in v) one

  -- the lock of an order tells its lines
  same_lines : (k : OrderKey) → P (name.Order k) Shared → lines_of k r.order_lines ≡ lines_of k s.order_lines
  same_lines k held =
      ap (λ (m : FinMap order_line_cmp OrderLine). entries m)
      (same_kept order_line_total exact_order_line (λ l. eq_by_cmp order_cmp (order_of_line l) k) r.order_lines
      s.order_lines (λ l e.
      un_order_line _ _ (alike.rows (key.OrderLine l)
      (subst (λ (j : OrderKey). P (name.Order j) Shared)
      (sym (is_same order_total exact_order (order_of_line l) k e)) held))))

pub district_act_same : (x : Tx Request) (t : Setting) (q : DeliveryRequest) (p : DeliveryPosition) (r s : Rows)
    → Alike system (Holds system (district_held q p r)) x r s
    → district_act t q p r ≡ district_act t q p s
unfolding first
district_act_same x t q DeliveryQueue r s h =
    ap (first t q) (same_oldest (Holds system (district_held q DeliveryQueue r)) x r s h q.district (inl (refl, tt)))
district_act_same x t q DeliveryNothing r s h = refl
district_act_same x t q (DeliveryOrder o) r s h =
    let j : OrderKey = order_in q.district o in
    let orders : get r.orders j ≡ get s.orders j = un_order _ _ (h.rows (key.Order j) (inl (refl, tt))) in
    let lines : lines_of j r.order_lines ≡ lines_of j s.order_lines =
    same_lines (Holds system (district_held q (DeliveryOrder o) r)) x r s h j (inl (refl, tt)) in
    λ i. with_value (NoSuchRow (key.Order j)) (orders i)
    (λ x. Go (Some (UpdateOrder j (with_carrier q.carrier x)))
    (t.here (DeliveryLine o x.customer (map (λ e. e.0.number) (lines i)) 0)))
district_act_same x t q (DeliveryLine o c [] sum) r s h = given_same
    (NoSuchRow (key.Customer (customer_in q.district c))) _ _ _
    (un_customer _ _ (h.rows (key.Customer (customer_in q.district c)) (inl (refl, tt))))
district_act_same x t q (DeliveryLine o c (n ∷ ns) sum) r s h =
    given_same (NoSuchRow (key.OrderLine (line_in (order_in q.district o) n))) _ _ _
    (un_order_line _ _ (h.rows (key.OrderLine (line_in (order_in q.district o) n)) (inl (refl, tt))))
district_act_same x t q (DeliveryEnd o c sum) r s h = refl

-- where the program stands, and goes on to, no more names are taken than on the way to the district's own position
pub record TakesNoMore (x : Tx Request) (t : Setting) (q : DeliveryRequest) : Type 0 where
  pub here : (p : DeliveryPosition) (n : Name) (m : Mode) → Holds system (locks_before x (t.here p)) n m
      → Holds system (delivery_taken q p) n m
  pub next : (d : DistrictDelivery) (n : Name) (m : Mode) → Holds system (locks_before x (t.next d)) n m
      → Holds system (delivery_taken q (end_of d)) n m
  -- and neither has read what may change
  pub here_recalls : (p : DeliveryPosition) (r : Rows) → Recalls (t.here p) r
  pub next_recalls : (d : DistrictDelivery) (r : Rows) → Recalls (t.next d) r

pub alone_takes : (x : Tx Request) (q : DeliveryRequest) → TakesNoMore x (alone q) q
alone_takes x q = record {
  here = λ p n m h. h;
  next = λ d n m h. h;
  here_recalls = λ p r. tt;
  next_recalls = λ d r. tt;
}

pub among_takes : (x : Tx Request) (q : DeliveriesRequest) (done : List DistrictDelivery)
    → TakesNoMore x (among_ten q done) (at_hand q done)
among_takes x q done = record {
  here = λ p n m h. h;
  next = λ d n m h. by_last d n m (length (done ++ d ∷ []) == 10) h;
  here_recalls = λ p r. tt;
  next_recalls = λ d r. recalls_last d r (length (done ++ d ∷ []) == 10);
}
  where
    recalls_last : (d : DistrictDelivery) (r : Rows) (b : Bool)
        → Recalls (cond b (DeliveriesEnd (done ++ d ∷ [])) (InDeliveries q (done ++ d ∷ []) DeliveryQueue)) r
    recalls_last d r true = tt
    recalls_last d r false = tt

    by_last : (d : DistrictDelivery) (n : Name) (m : Mode) (b : Bool)
        → Holds system (locks_before x
        (cond b (DeliveriesEnd (done ++ d ∷ [])) (InDeliveries q (done ++ d ∷ []) DeliveryQueue))) n m
        → Holds system (delivery_taken (at_hand q done) (end_of d)) n m
    by_last d n m true h = absurd h
    by_last d n m false h = absurd h

module _ (x : Tx Request) (t : Setting) (q : DeliveryRequest) (more : TakesNoMore x t q) where
  first_lawful : (r : Rows) (c : Option Change) (z : Position) (v : Option ℕ) → first t q v ≡ Go c z
      → IsLawfulBy x (district_held q DeliveryQueue r) r (Unit {0}) c z
  unfolding first
  first_lawful r c z None e = lawful_as x (district_held q DeliveryQueue r) r (Unit {0}) c None z (t.next Skipped) e
      (changes_none x (district_held q DeliveryQueue r) r (Unit {0}) (t.next Skipped) (more.next Skipped)
      (λ _. more.next_recalls Skipped r))
  first_lawful r c z (Some o) e =
      let d : Change = DeleteNewOrder (new_order_in q.district o) in
      lawful_as x (district_held q DeliveryQueue r) r (Unit {0}) c (Some d) z (t.here (DeliveryOrder o)) e
      (changes_plain x (district_held q DeliveryQueue r) r (Unit {0}) d (t.here (DeliveryOrder o))
      (more.here (DeliveryOrder o))
      (inl (refl, tt)) tt (keeps_delete (row_at r (key.NewOrder (new_order_in q.district o)))
      (new_order_in q.district o)) (λ _. more.here_recalls (DeliveryOrder o) _))

  pub district_lawful : (p : DeliveryPosition) (r : Rows) (c : Option Change) (z : Position)
      → district_act t q p r ≡ Go c z → IsLawfulBy x (district_held q p r) r (Unit {0}) c z
  unfolding first
  district_lawful DeliveryQueue r c z e = first_lawful r c z (oldest q.district r.new_orders) e
  district_lawful DeliveryNothing r c z e = let no : ⊥ = cc in absurd no
  district_lawful (DeliveryOrder o) r c z e =
      let hs : List (Hold Name) = district_held q (DeliveryOrder o) r in
      let j : OrderKey = order_in q.district o in
      let (y, here, e1) = given_goes (NoSuchRow (key.Order j)) (get r.orders j) _ c z e in
      let p : DeliveryPosition = DeliveryLine o y.customer (map (λ e. e.0.number) (lines_of j r.order_lines)) 0 in
      lawful_as x hs r (Unit {0}) c _ z _ e1
      (changes_plain x hs r (Unit {0}) (UpdateOrder j (with_carrier q.carrier y)) (t.here p) (more.here p)
      (inl (refl, tt)) tt
      (keeps_carrier (row_at r (key.Order j)) j (with_carrier q.carrier y)) (λ _. more.here_recalls p _))
  district_lawful (DeliveryLine o b [] sum) r c z e =
      let hs : List (Hold Name) = district_held q (DeliveryLine o b [] sum) r in
      let (y, here, e1) = given_goes (NoSuchRow (key.Customer (customer_in q.district b)))
      (get r.customers (customer_in q.district b)) _ c z e in
      lawful_as x hs r (Unit {0}) c _ z _ (within_goes _ _ c z e1)
      (changes_plain x hs r (Unit {0}) (UpdateCustomer (customer_in q.district b) (delivered_to sum y))
      (t.next (delivery_of_order o b sum)) (more.next (delivery_of_order o b sum)) (inl (refl, tt)) tt
      (keeps_customer r (customer_in q.district b) y (delivered_to sum y) here refl refl)
      (λ _. more.next_recalls (delivery_of_order o b sum) _))
  district_lawful (DeliveryLine o b (n ∷ ns) sum) r c z e =
      let hs : List (Hold Name) = district_held q (DeliveryLine o b (n ∷ ns) sum) r in
      let j : OrderLineKey = line_in (order_in q.district o) n in
      let (y, here, e1) = given_goes (NoSuchRow (key.OrderLine j)) (get r.order_lines j) _ c z e in
      let p : DeliveryPosition = DeliveryLine o b ns (sum + y.amount) in
      lawful_as x hs r (Unit {0}) c _ z _ e1
      (changes_plain x hs r (Unit {0}) (UpdateOrderLine j (with_date q.stamp y)) (t.here p) (more.here p)
      (inl (refl, tt)) tt
      (keeps_date (row_at r (key.OrderLine j)) j (with_date q.stamp y)) (λ _. more.here_recalls p _))
  district_lawful (DeliveryEnd o b sum) r c z e = let no : ⊥ = cc in absurd no
