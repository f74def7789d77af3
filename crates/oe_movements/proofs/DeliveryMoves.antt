-- Delivery keeps the seven movements, of one district and of ten, one after another.
use Rattle.std.proofs.Common.{◌≡◌, ℕ, ◌+◌, refl, sym, ◌∙◌, ap, subst, Bool, true, false, cond, List, [], ◌∷◌, Option}
use Rattle.std.proofs.Common.{Some, None, inl, inr, arith}
use Rattle.std.specs.Prelude.{◌⊎◌, ◌↔◌, ◌&&◌, ◌<◌, nat_lt, is_some}
use Rattle.std.specs.Ordering.{eq_by_cmp}
use Rattle.std.specs.FinMap.{get, insert, remove}
use Rattle.std.proofs.lemmas.Bool.{lt-ltb}
use Rattle.oe_rows.specs.Key.{order_cmp, customer_cmp}
use Rattle.oe_rows.specs.declared.keys.CustomerKey.{CustomerKey}
use Rattle.oe_rows.specs.declared.keys.NewOrderKey.{NewOrderKey}
use Rattle.oe_rows.specs.declared.keys.OrderKey.{OrderKey}
use Rattle.oe_rows.specs.declared.keys.OrderLineKey.{OrderLineKey}
use Rattle.oe_rows.specs.declared.keys.StockKey.{StockKey}
use Rattle.oe_rows.specs.declared.customers.Customer.{Customer}
use Rattle.oe_rows.specs.declared.orders.Order.{Order}
use Rattle.oe_rows.specs.declared.orders.OrderLine.{OrderLine}
use Rattle.oe_requests.specs.declared.requests.DeliveryRequest.{DeliveryRequest}
use Rattle.oe_requests.specs.declared.requests.DeliveriesRequest.{DeliveriesRequest}
use Rattle.oe_requests.specs.declared.replies.DistrictDelivery.{DistrictDelivery}
use Rattle.oe_requests.specs.declared.replies.DistrictDelivery.TheVariants.{Skipped}
use Rattle.oe_requests.specs.declared.replies.Reply.{Reply}
use Rattle.oe_rows.proofs.KeyFacts.{customer_total, exact_customer, new_order_total, exact_new_order, order_total}
use Rattle.oe_rows.proofs.KeyFacts.{exact_order, order_line_total, exact_order_line}
use Rattle.oe_model.specs.Keys.{order_of_line, customer_in, order_in, new_order_in}
use Rattle.oe_model.specs.Rows.{Rows}
use Rattle.oe_model.specs.Maps.{each, sum_of}
use Rattle.oe_model.specs.Delivery.{oldest, lines_of, worth, with_date, with_carrier, delivered_to, delivered_out}
use Rattle.oe_model.specs.Delivery.{delivery_of}
use Rattle.oe_model.specs.Delivery.{district_effect, delivery_effect}
use Rattle.oe_model.specs.Deliveries.{districts, in_district, in_turn, deliveries_effect}
use Rattle.oe_model.specs.Conditions.{HasNewOrder}
use Rattle.oe_model.specs.FurtherConditions.{More, if_of_order, if_of_customer}
use Rattle.oe_model.proofs.MapFacts.{is_self}
use Rattle.oe_model.proofs.SumFacts.{number_at, sum-insert, sum-each}
use Rattle.oe_model.proofs.EffectFacts.{made_by, there, there_in_range}
use Rattle.oe_model.proofs.PresenceFacts.{present_some, not_turned, own_or_old, each_left}
use Rattle.oe_model.proofs.QueueFacts.{oldest_least}
use Rattle.oe_consistency.proofs.DeliveryMore.{district_more}
use Rattle.oe_movements.specs.Movements.{delivered_of, is_ordered, order_sum, one_remote, is_delivered_to}
use Rattle.oe_movements.specs.Movements.{deliveries_to}
use Rattle.oe_movements.specs.Movements.{quantity_of, one_line, Payment_count, Delivery_count}
use Rattle.oe_movements.specs.Movements.{Delivery_count_at, Payment_count_at, Movements}
use Rattle.oe_movements.specs.Movements.{IsNumberedFirst}
use Rattle.oe_movements.proofs.LocalFacts.{remotes_of, IsCounted, to_counted, from_counted}
use Rattle.oe_movements.specs.Kept.{HasMovements}

module _ (initial : ℕ) (q : DeliveryRequest) (r : Rows) (h : HasMovements initial r) (o : ℕ)
    (is_oldest : oldest q.district r.new_orders ≡ Some o)
    (order : Order) (order_at : get r.orders (order_in q.district o) ≡ Some order) (u : Customer)
    (u_at : get r.customers (customer_in q.district order.customer) ≡ Some u) where
  abbrev k : OrderKey
  k = order_in q.district o

  abbrev j : NewOrderKey
  j = new_order_in q.district o

  abbrev owner : CustomerKey
  owner = customer_in q.district order.customer

  abbrev value : ℕ
  value = worth (lines_of k r.order_lines)

  abbrev date : OrderLineKey → OrderLine → OrderLine
  date l y = cond (eq_by_cmp order_cmp (order_of_line l) k) (with_date q.stamp y) y

  abbrev pub made : Rows
  made = record r {
    new_orders = remove r.new_orders j;
    orders = insert r.orders k (with_carrier q.carrier order);
    order_lines = each date r.order_lines;
    customers = insert r.customers owner (delivered_to value u);
  }

  waited : HasNewOrder r q.district o
  waited = (oldest_least q.district r.new_orders o is_oldest).0

  -- the order waited, so it had no carrier, and the population had not delivered it
  uncarried : order.carrier ≡ None
  uncarried = (h.more.condition_5 k order order_at).1 waited

  later : nat_lt (delivered_of initial) o ≡ true
  later =
      let row = present_some (get r.new_orders j) waited in
      lt-ltb (delivered_of initial) o (h.first.waiting j row.0 row.1)

  -- what counts no date counts as before
  lines_same : (F : OrderLineKey → OrderLine → ℕ)
      → ((l : OrderLineKey) (y : OrderLine) → F l (with_date q.stamp y) ≡ F l y)
      → sum_of F made.order_lines ≡ sum_of F r.order_lines
  lines_same F same = sum-each order_line_total exact_order_line F date r.order_lines
      (λ l y. by_test l y (eq_by_cmp order_cmp (order_of_line l) k))
    where
      by_test : (l : OrderLineKey) (y : OrderLine) (b : Bool) → F l (cond b (with_date q.stamp y) y) ≡ F l y
      by_test l y true = same l y
      by_test l y false = refl

  ordered_same : (figure : OrderLineKey → OrderLine → ℕ)
      → ((l : OrderLineKey) (y : OrderLine) → figure l (with_date q.stamp y) ≡ figure l y) → (i : StockKey)
      → order_sum figure initial made i ≡ order_sum figure initial r i
  ordered_same figure same i =
      lines_same (λ l y. cond (is_ordered initial i l y) (figure l y) 0)
      (λ l y. ap (λ n. cond (is_ordered initial i l y) n 0) (same l y))

  -- one more delivery counts for its customer
  deliveries_now : (c : CustomerKey) → deliveries_to initial made c ≡ deliveries_to initial r c
      + if_of_customer c owner 1
  deliveries_now c =
      let of : OrderKey → Order → ℕ = λ i x. cond (is_delivered_to initial c i x) 1 0 in
      let sum : deliveries_to initial made c + number_at of k (get r.orders k) ≡ deliveries_to initial r c
      + of k (with_carrier q.carrier order) =
      sum-insert order_total exact_order of r.orders k (with_carrier q.carrier order) in
      let before : number_at of k (get r.orders k) ≡ 0 =
      ap (number_at of k) order_at
      ∙ ap (λ (v : Option ℕ). cond (eq_by_cmp customer_cmp owner c && is_some v && nat_lt (delivered_of initial) o) 1 0)
      uncarried ∙ none (eq_by_cmp customer_cmp owner c) in
      let after : of k (with_carrier q.carrier order) ≡ if_of_customer c owner 1 =
      ap (λ t. cond (eq_by_cmp customer_cmp owner c && true && t) 1 0) later
      ∙ one (eq_by_cmp customer_cmp owner c) in
      omega arith
    where
      none : (b : Bool) → ◌≡◌ {A = ℕ} (cond (b && false && nat_lt (delivered_of initial) o) 1 0) 0
      none true = refl
      none false = refl

      one : (b : Bool) → ◌≡◌ {A = ℕ} (cond (b && true && true) 1 0) (cond b 1 0)
      one true = refl
      one false = refl

  delivery_now : Delivery_count initial made
  delivery_now c x e = go (own_or_old customer_total exact_customer r.customers owner (delivered_to value u) c x e)
    where
      go : ((c ≡ owner) × (delivered_to value u ≡ x))
          ⊎ ((eq_by_cmp customer_cmp c owner ≡ false) × (get r.customers c ≡ Some x))
          → Delivery_count_at initial made c x
      go (inl s) =
          let before : u.account.delivery_count ≡ deliveries_to initial r c =
          h.movements.delivery_count c u (ap (get r.customers) s.0 ∙ u_at) in
          let test : eq_by_cmp customer_cmp owner c ≡ true = ap (eq_by_cmp customer_cmp owner) s.0
          ∙ is_self customer_total exact_customer owner in
          let own : if_of_customer c owner 1 ≡ 1 = ap (λ b. cond b 1 0) test in
          let now : u.account.delivery_count + 1 ≡ x.account.delivery_count =
          ap (λ (y : Customer). y.account.delivery_count) s.1 in
          let all = deliveries_now c in
          omega arith
      go (inr s) =
          let before : x.account.delivery_count ≡ deliveries_to initial r c = h.movements.delivery_count c x s.1 in
          let none : if_of_customer c owner 1 ≡ 0 = ap (λ b. cond b 1 0)
          (not_turned customer_total exact_customer c owner s.0) in
          let all = deliveries_now c in
          omega arith

  payment_now : Payment_count made
  payment_now c x e = go (own_or_old customer_total exact_customer r.customers owner (delivered_to value u) c x e)
    where
      go : ((c ≡ owner) × (delivered_to value u ≡ x))
          ⊎ ((eq_by_cmp customer_cmp c owner ≡ false) × (get r.customers c ≡ Some x)) → Payment_count_at made c x
      go (inl s) = subst (λ (y : Customer). Payment_count_at made c y) s.1
          (h.movements.payment_count c u (ap (get r.customers) s.0 ∙ u_at))
      go (inr s) = h.movements.payment_count c x s.1

  remotes_same : (i : OrderKey) → remotes_of made i ≡ remotes_of r i
  remotes_same i = lines_same (λ l y. if_of_order i (order_of_line l) (one_remote l y)) (λ l y. refl)

  local_now : IsCounted made
  local_now i x e = go (own_or_old order_total exact_order r.orders k (with_carrier q.carrier order) i x e)
    where
      kept : (z : Order) → (z.all_local ≡ true) ↔ (remotes_of r i ≡ 0)
          → (z.all_local ≡ true) ↔ (remotes_of made i ≡ 0)
      kept z old = (λ t. remotes_same i ∙ old.0 t, λ t. old.1 (sym (remotes_same i) ∙ t))

      go : ((i ≡ k) × (with_carrier q.carrier order ≡ x))
          ⊎ ((eq_by_cmp order_cmp i k ≡ false) × (get r.orders i ≡ Some x))
          → (x.all_local ≡ true) ↔ (remotes_of made i ≡ 0)
      go (inl s) = subst (λ (y : Order). (y.all_local ≡ true) ↔ (remotes_of made i ≡ 0)) s.1
          (kept (with_carrier q.carrier order)
          (to_counted r h.movements.all_local i order (ap (get r.orders) s.0 ∙ order_at)))
      go (inr s) = kept x (to_counted r h.movements.all_local i x s.1)

  pub made_movements : Movements initial made
  made_movements = record {
    stock_ytd = λ i x e. h.movements.stock_ytd i x e ∙ sym (ordered_same quantity_of (λ l y. refl) i);
    stock_orders = λ i x e. h.movements.stock_orders i x e ∙ sym (ordered_same one_line (λ l y. refl) i);
    stock_remote = λ i x e. h.movements.stock_remote i x e ∙ sym (ordered_same one_remote (λ l y. refl) i);
    payment_count = payment_now;
    delivery_count = delivery_now;
    all_local = from_counted made local_now;
    stock_quantity = h.movements.stock_quantity;
  }

  pub made_first : IsNumberedFirst initial made
  made_first = record {
    next_orders = h.first.next_orders;
    waiting = each_left new_order_total exact_new_order (λ i x. delivered_of initial < i.order) r.new_orders j
        h.first.waiting;
  }

pub district_moves : (initial : ℕ) (q : DeliveryRequest) (r after : Rows) (d : DistrictDelivery)
    → HasMovements initial r → district_effect q r ≡ Some (after, d) → HasMovements initial after
district_moves initial q r after d h e = by_oldest (oldest q.district r.new_orders) refl e
  where
    P : Type 0
    P = HasMovements initial after

    more : More after
    more = district_more q r after d h.more e

    by_oldest : (v : Option ℕ) → oldest q.district r.new_orders ≡ v
        → (let w : Option (Rows × DistrictDelivery) = elim v
        [ None ↦ Some (r, Skipped) | Some o ↦ delivery_of q o r ] in w) ≡ Some (after, d) → P
    by_oldest None _ e = subst (HasMovements initial) (made_by r after Skipped d e) h
    by_oldest (Some o) is e =
        there P (get r.orders (order_in q.district o)) _ _ e (λ order order_at e.
        there P (get r.customers (customer_in q.district order.customer)) _ _ e (λ u u_at e.
        there_in_range P delivered_out (delivered_to (worth (lines_of (order_in q.district o) r.order_lines)) u) _ _ e
        (λ _ e.
        let rows : Rows = made initial q r h o is order order_at u u_at in
        let same : rows ≡ after = made_by rows after _ d e in
        record {
          more = more;
          first = subst (IsNumberedFirst initial) same (made_first initial q r h o is order order_at u u_at);
          movements = subst (Movements initial) same (made_movements initial q r h o is order order_at u u_at);
        })))

pub delivery_moves : (initial : ℕ) (q : DeliveryRequest) (r after : Rows) (y : Reply) → HasMovements initial r
    → delivery_effect q r ≡ Some (after, y) → HasMovements initial after
delivery_moves initial q r after y h e =
    there (HasMovements initial after) (district_effect q r) _ _ e (λ one one_is e.
    district_moves initial q r after one.1 h
    (one_is ∙ ap (λ (v : Rows). Some (v, one.1)) (made_by one.0 after _ y e)))

-- districts one after another
in_turn_moves : (initial : ℕ) (q : DeliveriesRequest) (ds : List ℕ) (r after : Rows) (done : List DistrictDelivery)
    → HasMovements initial r → in_turn q ds r ≡ Some (after, done) → HasMovements initial after
in_turn_moves initial q [] r after done h e = subst (HasMovements initial) (made_by r after [] done e) h
in_turn_moves initial q (d ∷ ds) r after done h e =
    there (HasMovements initial after) (district_effect (in_district q d) r) _ _ e (λ one one_is e.
    there (HasMovements initial after) (in_turn q ds one.0) _ _ e (λ rest rest_is e.
    in_turn_moves initial q ds one.0 after rest.1
    (district_moves initial (in_district q d) r one.0 one.1 h one_is)
    (rest_is ∙ ap (λ (v : Rows). Some (v, rest.1)) (made_by rest.0 after _ done e))))

pub deliveries_moves : (initial : ℕ) (q : DeliveriesRequest) (r after : Rows) (y : Reply) → HasMovements initial r
    → deliveries_effect q r ≡ Some (after, y) → HasMovements initial after
deliveries_moves initial q r after y h e =
    there (HasMovements initial after) (in_turn q districts r) _ _ e (λ all all_is e.
    in_turn_moves initial q districts r after all.1 h
    (all_is ∙ ap (λ (v : Rows). Some (v, all.1)) (made_by all.0 after _ y e)))
