-- A district's program, run alone, has the district's whole effect, and goes on to what follows.
use Rattle.std.proofs.Common.{◌≡◌, ℕ, ◌+◌, refl, sym, ◌∙◌, ap, subst, Bool, true, false, cond, List, [], ◌∷◌, map}
use Rattle.std.proofs.Common.{Option, Some, None, arith}
use Rattle.std.specs.Prelude.{is_some, option_map, IsSome}
use Rattle.std.specs.Ordering.{eq_by_cmp}
use Rattle.std.specs.FinMap.{FinMap, get, insert, remove}
use Rattle.oe_theory.specs.Machine.{Ask, Go, Tx}
use Rattle.oe_theory.specs.Laws.{IsAsked, all_held, ends_here, goes_here}
use Rattle.oe_rows.specs.Key.{new_order_cmp, order_cmp, order_line_cmp}
use Rattle.oe_rows.specs.declared.keys.OrderKey.{OrderKey}
use Rattle.oe_rows.specs.declared.keys.OrderLineKey.{OrderLineKey}
use Rattle.oe_rows.specs.declared.keys.Key.TheVariants as key
use Rattle.oe_rows.specs.declared.customers.Customer.{Customer}
use Rattle.oe_rows.specs.declared.orders.NewOrder.{NewOrder}
use Rattle.oe_rows.specs.declared.orders.Order.{Order}
use Rattle.oe_rows.specs.declared.orders.OrderLine.{OrderLine}
use Rattle.oe_rows.specs.declared.locks.Name.{Name}
use Rattle.oe_requests.specs.declared.requests.Request.{Request}
use Rattle.oe_requests.specs.declared.requests.Request.TheVariants as request
use Rattle.oe_requests.specs.declared.requests.DeliveryRequest.{DeliveryRequest}
use Rattle.oe_requests.specs.declared.requests.DeliveriesRequest.{DeliveriesRequest}
use Rattle.oe_requests.specs.declared.replies.DistrictDelivery.{DistrictDelivery}
use Rattle.oe_requests.specs.declared.replies.DistrictDelivery.TheVariants.{Delivered, Skipped}
use Rattle.oe_requests.specs.declared.replies.Reply.{Reply}
use Rattle.oe_requests.specs.declared.replies.Reply.TheVariants as reply
use Rattle.oe_requests.specs.declared.refusals.Column.{Column}
use Rattle.oe_requests.specs.declared.refusals.Column.TheVariants as column
use Rattle.oe_requests.specs.declared.refusals.Refusal.{Refusal}
use Rattle.oe_requests.specs.declared.refusals.Refusal.TheVariants.{NoSuchRow}
use Rattle.oe_rows.proofs.KeyFacts.{order_line_total, exact_order_line, order_total, exact_order}
use Rattle.oe_model.specs.Keys.{order_of_line, supply_of_line, customer_in, order_in, new_order_in, line_in}
use Rattle.oe_model.specs.Rows.{Rows}
use Rattle.oe_model.specs.Maps.{each}
use Rattle.oe_model.specs.Changes.{Change, rows_after, DeleteNewOrder, UpdateOrder, UpdateOrderLine, UpdateCustomer}
use Rattle.oe_model.specs.Meets.{Meets, Accepts}
use Rattle.oe_model.specs.Positions.{Position, InDelivery, DeliveryPosition, DeliveryQueue, DeliveryNothing}
use Rattle.oe_model.specs.Positions.{DeliveryOrder, DeliveryLine, DeliveryEnd}
use Rattle.oe_model.specs.Effects.{◌>>=◌, in_range, Doing, with_value}
use Rattle.oe_model.specs.Payment.{is_balance, is_count}
use Rattle.oe_model.specs.Delivery.{oldest, lines_of, worth, with_date, with_carrier, delivery_of_order, delivered_to}
use Rattle.oe_model.specs.Delivery.{delivered_out}
use Rattle.oe_model.specs.Delivery.{delivery_of, district_effect, delivery_effect, Setting, end_of, alone, delivery_ask}
use Rattle.oe_model.specs.Delivery.{district_act}
use Rattle.oe_model.specs.Deliveries.{at_hand, among_ten}
use Rattle.oe_model.specs.System.{system, ask, act}
use Rattle.oe_model.specs.Requests.{OfDelivery, DeliveryMayRefuse}
use Rattle.oe_model.proofs.MapFacts.{get-each, is_same}
use Rattle.oe_model.proofs.EntryFacts.{EachOf, kept_at}
use Rattle.oe_model.proofs.PresenceFacts.{some_present, present_some, missing}
use Rattle.oe_model.proofs.EffectFacts.{out_among, bind_in}
use Rattle.oe_model.proofs.QueueFacts.{oldest_least, date_marked, mark, mark_all, dated-marked, all-dated, none-dated}
use Rattle.oe_model.proofs.QueueFacts.{add_worth}
use Rattle.oe_model.proofs.StepFacts.{EndsSo, ends_given, ends_within}
use Rattle.oe_model.proofs.KeptFacts.{ends_kept}

-- the columns that a delivery tests
of_customer : (y : Customer) (c : Column) → delivered_out y ≡ Some c → OfDelivery c
of_customer y c e = out_among OfDelivery
    ((column.Balance, is_balance y.account.balance) ∷ (column.DeliveryCount, is_count y.account.delivery_count) ∷ [])
    (tt, (tt, tt)) c e

-- the stages of a setting are those of the district's program
pub record IsSetting (x : Tx Request) (t : Setting) (q : DeliveryRequest) : Type 0 where
  pub asks : (p : DeliveryPosition) (r : Rows) → ask x (t.here p) r ≡ delivery_ask q p r
  pub acts : (p : DeliveryPosition) (r : Rows) → act x (t.here p) r ≡ district_act t q p r

pub alone_is : (x : Tx Request) (q : DeliveryRequest) → IsSetting x (alone q) q
alone_is x q = record { asks = λ p r. refl; acts = λ p r. refl }

pub among_is : (x : Tx Request) (q : DeliveriesRequest) (done : List DistrictDelivery)
    → IsSetting x (among_ten q done) (at_hand q done)
among_is x q done = record { asks = λ p r. refl; acts = λ p r. refl }

module _ (x : Tx Request) (t : Setting) (q : DeliveryRequest) (s : IsSetting x t q) where
  -- a stage's lock is held
  asked : (p : DeliveryPosition) (r : Rows) → IsAsked system (all_held system) (delivery_ask q p r)
      → IsAsked system (all_held system) (ask x (t.here p) r)
  asked p r h = subst (λ (a : Ask Name Refusal). IsAsked system (all_held system) a) (sym (s.asks p r)) h

module _ (x : Tx Request) (t : Setting) (q : DeliveryRequest) (s : IsSetting x t q) (o c : ℕ) (r : Rows)
    (queue : FinMap new_order_cmp NewOrder) (orders : FinMap order_cmp Order)
    (end : Option (Rows × Reply)) (supplied : (j : OrderLineKey) (y : OrderLine) → get r.order_lines j ≡ Some y
    → IsSome (get r.stocks (supply_of_line y))) where
  abbrev k : OrderKey
  k = order_in q.district o

  abbrev pub dated_tables : (OrderLineKey → Bool) → Rows
  dated_tables marked =
      record r { new_orders = queue; orders = orders; order_lines = each (date_marked q.stamp marked) r.order_lines }

  same_amount : (b : Bool) (y : OrderLine) → (cond b (with_date q.stamp y) y).amount ≡ y.amount
  same_amount true y = refl
  same_amount false y = refl

  same_supply : (b : Bool) (y : OrderLine) → supply_of_line y ≡ supply_of_line
      (with_date q.stamp (cond b (with_date q.stamp y) y))
  same_supply true y = refl
  same_supply false y = refl

  abbrev Stands : OrderLineKey × OrderLine → Type 0
  Stands e = (eq_by_cmp order_cmp (order_of_line e.0) k ≡ true) × (get r.order_lines e.0 ≡ Some e.1)

  -- the lines to come, and then the customer
  pub lines_dated : (es : List (OrderLineKey × OrderLine)) (marked : OrderLineKey → Bool) (sum : ℕ) → EachOf Stands es
      → EndsSo DeliveryMayRefuse x (t.here (DeliveryLine o c [] (sum + worth es))) (dated_tables (mark_all es marked))
      end
      → EndsSo DeliveryMayRefuse x (t.here (DeliveryLine o c (map (λ e. e.0.number) es) sum)) (dated_tables marked) end
  lines_dated [] marked sum h rest =
      subst (λ (n : ℕ). EndsSo DeliveryMayRefuse x (t.here (DeliveryLine o c [] n)) (dated_tables marked) end)
      (let z : sum + 0 ≡ sum = omega arith in z) rest
  lines_dated (e ∷ es) marked sum h rest =
      let j : OrderLineKey = line_in k e.0.number in
      let p : DeliveryPosition = DeliveryLine o c (e.0.number ∷ map (λ e. e.0.number) es) sum in
      let own : j ≡ e.0 = ap (λ (i : OrderKey). line_in i e.0.number)
      (sym (is_same order_total exact_order (order_of_line e.0) k h.0.0)) in
      let here : get r.order_lines j ≡ Some e.1 = ap (get r.order_lines) own ∙ h.0.1 in
      let m : Rows = dated_tables marked in
      let y : OrderLine = date_marked q.stamp marked j e.1 in
      let found : get m.order_lines j ≡ Some y = get-each order_line_cmp (date_marked q.stamp marked) exact_order_line
      r.order_lines j ∙ ap (option_map (date_marked q.stamp marked j)) here in
      let next : ℕ → Position = λ n. t.here (DeliveryLine o c (map (λ e. e.0.number) es) n) in
      let m' : Rows = record m { order_lines = insert m.order_lines j (with_date q.stamp y) } in
      goes_here (t.here p) m (Some (UpdateOrderLine j (with_date q.stamp y))) (next (sum + y.amount)) end
      (asked x t q s p m tt)
      (s.acts p m ∙ ap (λ (v : Option OrderLine). with_value (NoSuchRow (key.OrderLine j)) v
      (λ x. Go (Some (UpdateOrderLine j (with_date q.stamp x))) (next (sum + x.amount)))) found) (
        some_present (get m.order_lines j) y found,
        subst
            (λ (v : Rattle.oe_rows.specs.declared.keys.StockKey.StockKey). IsSome (get r.stocks v))
            (same_supply (marked j) e.1) (supplied j e.1 here),
      )
      (subst (λ (n : ℕ). EndsSo DeliveryMayRefuse x (next (sum + n)) m' end) (sym (same_amount (marked j) e.1))
      (subst (λ (v : FinMap order_line_cmp OrderLine). EndsSo DeliveryMayRefuse x (next (sum + e.1.amount))
      (record m { order_lines = v }) end) (sym (dated-marked q.stamp r.order_lines marked j e.1 here))
      (lines_dated es (mark j marked) (sum + e.1.amount) h.1
      (subst (λ (n : ℕ). EndsSo DeliveryMayRefuse x (t.here (DeliveryLine o c [] n))
      (dated_tables (mark_all es (mark j marked))) end) (sym (add_worth sum e es))
      (subst (λ (i : OrderLineKey). EndsSo DeliveryMayRefuse x (t.here (DeliveryLine o c [] (sum + worth (e ∷ es))))
      (dated_tables (mark_all es (mark i marked))) end) (sym own) rest)))))

module _ (x : Tx Request) (t : Setting) (q : DeliveryRequest) (s : IsSetting x t q) (r : Rows) (m : Meets r)
    (g : Rows × DistrictDelivery → Option (Rows × Reply))
    (follows : (after : Rows) (d : DistrictDelivery) → district_effect q r ≡ Some (after, d)
    → EndsSo DeliveryMayRefuse x (t.next d) after (g (after, d))) where
  abbrev p0 : Position
  p0 = t.here DeliveryQueue

  first : Option ℕ → Doing
  first v = elim v [
    | None ↦ Go None (t.next Skipped)
    | Some o ↦ Go (Some (DeleteNewOrder (new_order_in q.district o)))
        (t.here (DeliveryOrder o))
  ]

  abbrev effect : Option ℕ → Option (Rows × DistrictDelivery)
  effect v = elim v [ None ↦ Some (r, Skipped) | Some o ↦ delivery_of q o r ]

  -- where an order waits
  module _ (o : ℕ) (is_oldest : oldest q.district r.new_orders ≡ Some o) where
    abbrev order_key : OrderKey
    order_key = order_in q.district o

    abbrev sum : ℕ
    sum = worth (lines_of order_key r.order_lines)

    abbrev lines_after : FinMap order_line_cmp OrderLine
    lines_after = each (λ j y. cond (eq_by_cmp order_cmp (order_of_line j) order_key)
        (with_date q.stamp y) y) r.order_lines

    abbrev made : Order → Customer → Rows × DistrictDelivery
    made order u = (
      record r {
        new_orders = remove r.new_orders (new_order_in q.district o);
        orders = insert r.orders order_key (with_carrier q.carrier order);
        order_lines = lines_after;
        customers = insert r.customers (customer_in q.district order.customer) u;
      },
      delivery_of_order o order.customer sum,
    )

    abbrev on_account : Order → Customer → Option (Rows × DistrictDelivery)
    on_account order u = in_range delivered_out (delivered_to sum u) >>= λ u'. Some (made order u')

    abbrev on_order : Order → Option (Rows × DistrictDelivery)
    on_order order = get r.customers (customer_in q.district order.customer) >>= on_account order

    waits : IsSome (get r.new_orders (new_order_in q.district o))
    waits = (oldest_least q.district r.new_orders o is_oldest).0

    order_there : IsSome (get r.orders order_key)
    order_there = let row = present_some (get r.new_orders (new_order_in q.district o)) waits in
        m.new_orders (new_order_in q.district o) row.0 row.1

    -- what the steps come to is the effect
    comes_to : (order : Order) (u : Customer) → get r.orders order_key ≡ Some order
        → get r.customers (customer_in q.district order.customer) ≡ Some u → delivered_out (delivered_to sum u) ≡ None
        → district_effect q r ≡ Some (made order (delivered_to sum u))
    comes_to order u order_at u_at ok =
        ap effect is_oldest ∙ ap (λ (v : Option Order). v >>= on_order) order_at
        ∙ ap (λ (v : Option Customer). v >>= on_account order) u_at
        ∙ ap (λ (v : Option Column).
        (let w : Option Customer = elim v [ None ↦ Some (delivered_to sum u) | Some c ↦ None ] in w) >>= λ u'. Some
        (made order u')) ok

    -- the last stage, at the customer
    pub last_ends : (order : Order) → get r.orders order_key ≡ Some order
        → (let r3 : Rows = record r {
          new_orders = remove r.new_orders (new_order_in q.district o);
          orders = insert r.orders order_key (with_carrier q.carrier order);
          order_lines = lines_after;
        } in
        EndsSo DeliveryMayRefuse x (t.here (DeliveryLine o order.customer [] sum)) r3 (on_order order >>= g))
    last_ends order order_at =
        let c : ℕ = order.customer in
        let r3 : Rows = record r {
          new_orders = remove r.new_orders (new_order_in q.district o);
          orders = insert r.orders order_key (with_carrier q.carrier order);
          order_lines = lines_after;
        } in
        let p3 : DeliveryPosition = DeliveryLine o c [] sum in
        let there : IsSome (get r.customers (customer_in q.district c)) = m.orders order_key order order_at in
        subst (λ (e : Option (Rows × Reply)). EndsSo DeliveryMayRefuse x (t.here p3) r3 e)
        (sym (bind_in (get r.customers (customer_in q.district c)) (on_account order) g)) (
        ends_given DeliveryMayRefuse x (t.here p3) r3 (asked x t q s p3 r3 tt)
        (NoSuchRow (key.Customer (customer_in q.district c))) (get r.customers (customer_in q.district c)) _ _
        (missing (get r.customers (customer_in q.district c)) there) (s.acts p3 r3) (λ u u_at a.
        let y : Customer = delivered_to sum u in
        subst (λ (e : Option (Rows × Reply)). EndsSo DeliveryMayRefuse x (t.here p3) r3 e)
        (sym (bind_in (in_range delivered_out y) (λ u'. Some (made order u')) g)) (
        ends_within DeliveryMayRefuse x (t.here p3) r3 (asked x t q s p3 r3 tt) delivered_out y _ _ (of_customer y) a
        (λ ok b.
        goes_here (t.here p3) r3 (Some (UpdateCustomer (customer_in q.district c) y))
        (t.next (delivery_of_order o c sum)) _
        (asked x t q s p3 r3 tt) b (ap is_some u_at)
        (follows (made order y).0 (delivery_of_order o c sum) (comes_to order u order_at u_at ok))))))

    pub order_ends : EndsSo DeliveryMayRefuse x p0 r (delivery_of q o r >>= g)
    unfolding first
    order_ends =
        let p1 : DeliveryPosition = DeliveryOrder o in
        let queue : FinMap new_order_cmp NewOrder = remove r.new_orders (new_order_in q.district o) in
        let r1 : Rows = record r { new_orders = queue } in
        goes_here p0 r (Some (DeleteNewOrder (new_order_in q.district o))) (t.here p1) _
        (asked x t q s DeliveryQueue r tt) (s.acts DeliveryQueue r ∙ ap first is_oldest) waits (
        subst (λ (e : Option (Rows × Reply)). EndsSo DeliveryMayRefuse x (t.here p1) r1 e)
        (sym (bind_in (get r.orders order_key) on_order g)) (
        ends_given DeliveryMayRefuse x (t.here p1) r1 (asked x t q s p1 r1 tt) (NoSuchRow (key.Order order_key))
        (get r.orders order_key) _ _ (missing (get r.orders order_key) order_there) (s.acts p1 r1)
        (λ order order_at a.
        let orders : FinMap order_cmp Order = insert r.orders order_key (with_carrier q.carrier order) in
        let c : ℕ = order.customer in
        let es : List (OrderLineKey × OrderLine) = lines_of order_key r.order_lines in
        let end : Option (Rows × Reply) = on_order order >>= g in
        let p2 : Position = t.here (DeliveryLine o c (map (λ e. e.0.number) es) 0) in
        let r2 : Rows = record r1 { orders = orders } in
        let r3 : Rows = record r2 { order_lines = lines_after } in
        goes_here (t.here p1) r1 (Some (UpdateOrder order_key (with_carrier q.carrier order))) p2 _
        (asked x t q s p1 r1 tt)
        a (order, order_at, refl) (
        subst (λ (v : FinMap order_line_cmp OrderLine). EndsSo DeliveryMayRefuse x p2 (record r2 { order_lines = v })
        end) (none-dated q.stamp r.order_lines) (
        lines_dated x t q s o c r queue orders end (λ j y e. (m.order_lines j y e).1) es (λ _. false) 0
        (kept_at order_line_total exact_order_line r.order_lines
        (λ l. eq_by_cmp order_cmp (order_of_line l) order_key)) (
        subst (λ (v : FinMap order_line_cmp OrderLine). EndsSo DeliveryMayRefuse x
        (t.here (DeliveryLine o c [] (0 + sum))) (record r2 { order_lines = v }) end) (sym
        (all-dated q.stamp r.order_lines order_key)) (
        subst (λ (n : ℕ). EndsSo DeliveryMayRefuse x (t.here (DeliveryLine o c [] n)) r3 end)
        (let z : sum ≡ 0 + sum = omega arith in z) (
        last_ends order order_at))))))))

  -- the district's effect, and what follows of it
  pub district_ends : EndsSo DeliveryMayRefuse x p0 r (district_effect q r >>= g)
  unfolding first
  district_ends = by_oldest (oldest q.district r.new_orders) refl
    where
      by_oldest : (v : Option ℕ) → oldest q.district r.new_orders ≡ v → EndsSo DeliveryMayRefuse x p0 r (effect v >>= g)
      by_oldest None e = goes_here p0 r None (t.next Skipped) _ (asked x t q s DeliveryQueue r tt)
          (s.acts DeliveryQueue r ∙ ap first e) tt (follows r Skipped (ap effect e))
      by_oldest (Some o) e = order_ends o e

-- alone, the effect is the transaction's
pub delivery_ends : (x : Tx Request) (q : DeliveryRequest) (r : Rows) → Meets r
    → EndsSo DeliveryMayRefuse x (InDelivery q DeliveryQueue) r (delivery_effect q r)
delivery_ends x q r m = district_ends x (alone q) q (alone_is x q) r m (λ e. Some (e.0, reply.Delivery e.1))
    (λ after d e. at_end after d)
  where
    at_end : (after : Rows) (d : DistrictDelivery)
        → EndsSo DeliveryMayRefuse x (InDelivery q (end_of d)) after (Some (after, reply.Delivery d))
    at_end after Skipped = ends_here (InDelivery q DeliveryNothing) after (reply.Delivery Skipped) tt refl
    at_end after (Delivered y) = ends_here (InDelivery q (DeliveryEnd y.order y.customer y.sum)) after
        (reply.Delivery (Delivered y)) tt refl

-- what each accepted change keeps, a district's effect keeps
pub district_keeps : (P : Rows → Type 0) → ((c : Change) (r : Rows) → Accepts c r → P r → P (rows_after c r))
    → (q : DeliveryRequest) (r after : Rows) (d : DistrictDelivery)
    → Meets r → district_effect q r ≡ Some (after, d) → P r → P after
district_keeps P kept q r after d m e h =
    let x : Tx Request = record { terminal = 1; number = 1; request = request.Delivery q } in
    ends_kept P kept DeliveryMayRefuse x (InDelivery q DeliveryQueue) r (delivery_effect q r) after (reply.Delivery d)
    (delivery_ends x q r m)
    (ap (λ (v : Option (Rows × DistrictDelivery)). v >>= λ e. Some (e.0, reply.Delivery e.1)) e) h
