-- Delivery keeps conditions 5 to 10 and 12, of one district and of ten, one after another.
use Rattle.std.proofs.Common.{◌≡◌, ℕ, ◌+◌, refl, sym, ◌∙◌, ap, subst, Bool, true, false, cond, List, [], ◌∷◌, Option}
use Rattle.std.proofs.Common.{Some, None, inl, inr, arith, ℤ, pos, ◌+ℤ◌, ◌-ℤ◌}
use Rattle.std.specs.Prelude.{◌⊎◌, ◌↔◌, ◌&&◌, is_some, sum_by}
use Rattle.std.specs.Ordering.{eq_by_cmp}
use Rattle.std.proofs.lemmas.Int.{ints}
use Rattle.std.specs.FinMap.{get, insert, remove}
use Rattle.std.proofs.lemmas.List.Sums.{sum_by-cons}
use Rattle.oe_rows.specs.Key.{order_cmp, customer_cmp}
use Rattle.oe_rows.specs.declared.keys.CustomerKey.{CustomerKey}
use Rattle.oe_rows.specs.declared.keys.NewOrderKey.{NewOrderKey}
use Rattle.oe_rows.specs.declared.keys.OrderKey.{OrderKey}
use Rattle.oe_rows.specs.declared.keys.OrderLineKey.{OrderLineKey}
use Rattle.oe_rows.specs.declared.customers.Customer.{Customer}
use Rattle.oe_rows.specs.declared.orders.Order.{Order}
use Rattle.oe_rows.specs.declared.orders.OrderLine.{OrderLine}
use Rattle.oe_requests.specs.declared.requests.DeliveryRequest.{DeliveryRequest}
use Rattle.oe_requests.specs.declared.requests.DeliveriesRequest.{DeliveriesRequest}
use Rattle.oe_requests.specs.declared.replies.DistrictDelivery.{DistrictDelivery}
use Rattle.oe_requests.specs.declared.replies.DistrictDelivery.TheVariants.{Skipped}
use Rattle.oe_requests.specs.declared.replies.Reply.{Reply}
use Rattle.oe_rows.proofs.KeyFacts.{customer_total, exact_customer, new_order_total, exact_new_order, order_total}
use Rattle.oe_rows.proofs.KeyFacts.{exact_order, order_line_total, exact_order_line}
use Rattle.oe_model.specs.Keys.{district_of_order, order_of_line, customer_in, order_in, new_order_in}
use Rattle.oe_model.specs.Rows.{Rows}
use Rattle.oe_model.specs.Maps.{each}
use Rattle.oe_model.specs.Delivery.{oldest, lines_of, worth, with_date, with_carrier, delivered_to, delivered_out}
use Rattle.oe_model.specs.Delivery.{delivery_of}
use Rattle.oe_model.specs.Delivery.{district_effect, delivery_effect}
use Rattle.oe_model.specs.Deliveries.{districts, in_district, in_turn, deliveries_effect}
use Rattle.oe_model.specs.Conditions.{HasNewOrder}
use Rattle.oe_model.specs.FurtherConditions.{More, if_of_order, if_of_customer, lines_of_order, amount_for}
use Rattle.oe_model.specs.FurtherConditions.{delivered_for, paid_by, Condition_5, Condition_5_at, Condition_6}
use Rattle.oe_model.specs.FurtherConditions.{Condition_6_at, Condition_7, Condition_10, Condition_10_at, Condition_12}
use Rattle.oe_model.specs.FurtherConditions.{Condition_12_at}
use Rattle.oe_model.proofs.MapFacts.{is_self, get_own}
use Rattle.oe_model.proofs.GroupFacts.{sum_of_group}
use Rattle.oe_model.proofs.SumFacts.{sum-each}
use Rattle.oe_model.proofs.EffectFacts.{made_by, there, there_in_range}
use Rattle.oe_model.proofs.PresenceFacts.{missing, key_cases, not_turned, get_other, gone_own, gone_other, own_or_old}
use Rattle.oe_model.proofs.PresenceFacts.{row_of_each}
use Rattle.oe_model.proofs.QueueFacts.{oldest_least}
use Rattle.oe_consistency.proofs.RowSums.{sum_alike, sum_added, sum_mapped}
use Rattle.oe_consistency.proofs.NewOrderMore.{undated_counts}

-- a balance after a delivery, where what was delivered is worth more
delivered_on : (z : ℤ) (d p v n : ℕ) → z ≡ pos d -ℤ pos p → n ≡ d + v → z +ℤ pos v ≡ pos n -ℤ pos p
delivered_on z d p v n e m = omega (arith, ints)

delivered_off : (z : ℤ) (y d v n : ℕ) → z +ℤ pos y ≡ pos d → n ≡ d + v → (z +ℤ pos v) +ℤ pos y ≡ pos n
delivered_off z y d v n e m = omega (arith, ints)

-- lines that count for a customer count as much as they are worth, or nothing
worth_if : (b : Bool) (es : List (OrderLineKey × OrderLine))
    → sum_by (λ e. cond b e.1.amount 0) es ≡ cond b (worth es) 0
worth_if true es = refl
worth_if false [] = refl
worth_if false (e ∷ es) =
    let a = sum_by-cons (λ (e : OrderLineKey × OrderLine). 0) e es in
    let b : sum_by (λ (e : OrderLineKey × OrderLine). 0) es ≡ 0 = worth_if false es in
    let z : sum_by (λ (e : OrderLineKey × OrderLine). 0) (e ∷ es) ≡ 0 = omega arith in z

module _ (q : DeliveryRequest) (r : Rows) (more : More r) (o : ℕ) (is_oldest : oldest q.district r.new_orders ≡ Some o)
    (order : Order) (order_at : get r.orders (order_in q.district o) ≡ Some order) (u : Customer)
    (u_at : get r.customers (customer_in q.district order.customer) ≡ Some u) where
  abbrev k : OrderKey
  k = order_in q.district o

  abbrev j : NewOrderKey
  j = new_order_in q.district o

  abbrev owner : CustomerKey
  owner = customer_in q.district order.customer

  abbrev value : ℕ
  value = worth (lines_of k r.order_lines)

  abbrev date : OrderLineKey → OrderLine → OrderLine
  date l y = cond (eq_by_cmp order_cmp (order_of_line l) k) (with_date q.stamp y) y

  abbrev pub delivered : Rows
  delivered = record r {
    new_orders = remove r.new_orders j;
    orders = insert r.orders k (with_carrier q.carrier order);
    order_lines = each date r.order_lines;
    customers = insert r.customers owner (delivered_to value u);
  }

  -- the order waited, so it had no carrier, and its lines had no date
  waited : HasNewOrder r q.district o
  waited = (oldest_least q.district r.new_orders o is_oldest).0

  uncarried : order.carrier ≡ None
  uncarried = (more.condition_5 k order order_at).1 waited

  undated : (l : OrderLineKey) (y : OrderLine) → get r.order_lines l ≡ Some y → order_of_line l ≡ k → y.delivery ≡ None
  undated l y e s = (more.condition_7 l y e order (ap (get r.orders) s ∙ order_at)).1 uncarried

  order_stays : (i : OrderKey) → eq_by_cmp order_cmp i k ≡ false → get delivered.orders i ≡ get r.orders i
  order_stays i e = get_other order_total exact_order r.orders k (with_carrier q.carrier order) i e

  delivered_5 : Condition_5 delivered
  delivered_5 i x e = go (own_or_old order_total exact_order r.orders k (with_carrier q.carrier order) i x e)
    where
      own : Condition_5_at delivered k (with_carrier q.carrier order)
      own = (
        λ v. let no : ⊥ = cc in
            absurd no,
        λ p. absurd
            (missing (get delivered.new_orders j) p (gone_own new_order_total exact_new_order r.new_orders j)),
      )

      go : ((i ≡ k) × (with_carrier q.carrier order ≡ x))
          ⊎ ((eq_by_cmp order_cmp i k ≡ false) × (get r.orders i ≡ Some x))
          → Condition_5_at delivered i x
      go (inl h) = subst (λ (y : Order). Condition_5_at delivered i y) h.1
          (subst (λ (n : OrderKey). Condition_5_at delivered n (with_carrier q.carrier order)) (sym h.0) own)
      go (inr h) =
          let old : (x.carrier ≡ None) ↔ HasNewOrder r (district_of_order i) i.order = more.condition_5 i x h.1 in
          let same : get delivered.new_orders (new_order_in (district_of_order i) i.order) ≡ get r.new_orders
          (new_order_in (district_of_order i) i.order) =
          gone_other new_order_total exact_new_order r.new_orders j (new_order_in (district_of_order i) i.order) h.0 in
          (λ v. ap is_some same ∙ old.0 v, λ p. old.1 (ap is_some (sym same) ∙ p))

  count : (i : OrderKey) → lines_of_order delivered i ≡ lines_of_order r i
  count i = sum-each order_line_total exact_order_line (λ l y. if_of_order i (order_of_line l) 1) date r.order_lines
      (λ l y. refl)

  delivered_6 : Condition_6 delivered
  delivered_6 i x e = go (own_or_old order_total exact_order r.orders k (with_carrier q.carrier order) i x e)
    where
      go : ((i ≡ k) × (with_carrier q.carrier order ≡ x))
          ⊎ ((eq_by_cmp order_cmp i k ≡ false) × (get r.orders i ≡ Some x))
          → Condition_6_at delivered i x
      go (inl h) = sym (ap (λ (y : Order). y.line_count) h.1) ∙ more.condition_6 i order
          (ap (get r.orders) h.0 ∙ order_at) ∙ sym (count i)
      go (inr h) = more.condition_6 i x h.1 ∙ sym (count i)

  delivered_7 : Condition_7 delivered
  delivered_7 l y e x f = by_order (key_cases order_total exact_order (order_of_line l) k)
    where
      row : (z : OrderLine) × (get r.order_lines l ≡ Some z) × (date l z ≡ y)
      row = row_of_each order_line_total exact_order_line date r.order_lines l y e

      by_order : (order_of_line l ≡ k) ⊎ (eq_by_cmp order_cmp (order_of_line l) k ≡ false)
          → (y.delivery ≡ None) ↔ (x.carrier ≡ None)
      by_order (inl s) =
          let test : eq_by_cmp order_cmp (order_of_line l) k ≡ true = ap (λ (i : OrderKey). eq_by_cmp order_cmp i k) s
          ∙ is_self order_total exact_order k in
          let here : with_date q.stamp row.0 ≡ y = ap (λ b. cond b (with_date q.stamp row.0) row.0) (sym test)
          ∙ row.2 in
          let dates : Some q.stamp ≡ y.delivery = ap (λ (z : OrderLine). z.delivery) here in
          let own : Some (with_carrier q.carrier order) ≡ Some x =
          sym (get_own order_total exact_order r.orders k (with_carrier q.carrier order))
          ∙ ap (get delivered.orders) (sym s) ∙ f in
          let same : with_carrier q.carrier order ≡ x = cc in
          let carries : Some q.carrier ≡ x.carrier = ap (λ (z : Order). z.carrier) same in (
            λ v. let g : Some q.stamp ≡ None = dates ∙ v in let no : ⊥ = cc in
                absurd no,
            λ v. let g : Some q.carrier ≡ None = carries ∙ v in let no : ⊥ = cc in absurd no,
          )
      by_order (inr n) =
          let here : row.0 ≡ y = ap (λ b. cond b (with_date q.stamp row.0) row.0) (sym n) ∙ row.2 in
          let old : (row.0.delivery ≡ None) ↔ (x.carrier ≡ None) = more.condition_7 l row.0 row.1 x
          (sym (order_stays (order_of_line l) n) ∙ f) in
          subst (λ (z : OrderLine). (z.delivery ≡ None) ↔ (x.carrier ≡ None)) here old

  -- what is delivered to the order's customer is worth more, and to others as much
  delivered_now : (c : CustomerKey) → delivered_for delivered c ≡ delivered_for r c + if_of_customer c owner value
  delivered_now c =
      sum_mapped order_line_total exact_order_line now date r.order_lines
      ∙ sum_alike order_line_total exact_order_line (λ l y. now l (date l y)) (λ l y. before l y + gained l y)
      r.order_lines (λ l y e. each_line l y e (key_cases order_total exact_order (order_of_line l) k))
      ∙ sum_added order_line_total exact_order_line before gained r.order_lines
      ∙ ap (λ n. delivered_for r c + n)
      (sum_of_group order_line_total exact_order_line r.order_lines (λ l. eq_by_cmp order_cmp (order_of_line l) k)
      (λ l y. if_of_customer c owner y.amount) ∙ worth_if (eq_by_cmp customer_cmp owner c) (lines_of k r.order_lines))
    where
      now : OrderLineKey → OrderLine → ℕ
      now l y = amount_for c (order_of_line l) (get delivered.orders (order_of_line l)) y

      before : OrderLineKey → OrderLine → ℕ
      before l y = amount_for c (order_of_line l) (get r.orders (order_of_line l)) y

      gained : OrderLineKey → OrderLine → ℕ
      gained l y = cond (eq_by_cmp order_cmp (order_of_line l) k) (if_of_customer c owner y.amount) 0

      always : (b : Bool) (n : ℕ) → cond (b && true) n 0 ≡ cond b n 0
      always true n = refl
      always false n = refl

      own : (l : OrderLineKey) (y : OrderLine) → order_of_line l ≡ k
          → amount_for c (order_of_line l) (get delivered.orders (order_of_line l)) (with_date q.stamp y)
          ≡ if_of_customer c
          owner y.amount
      own l y s =
          ap (λ (i : OrderKey). amount_for c i (get delivered.orders i) (with_date q.stamp y)) s
          ∙ ap (λ (v : Option Order). amount_for c k v (with_date q.stamp y))
          (get_own order_total exact_order r.orders k (with_carrier q.carrier order))
          ∙ always (eq_by_cmp customer_cmp owner c) y.amount

      each_line : (l : OrderLineKey) (y : OrderLine) → get r.order_lines l ≡ Some y
          → (order_of_line l ≡ k) ⊎ (eq_by_cmp order_cmp (order_of_line l) k ≡ false)
          → now l (date l y) ≡ before l y + gained l y
      each_line l y e (inl s) =
          let test : eq_by_cmp order_cmp (order_of_line l) k ≡ true = ap (λ (i : OrderKey). eq_by_cmp order_cmp i k) s
          ∙ is_self order_total exact_order k in
          let a : now l (date l y) ≡ now l (with_date q.stamp y) = ap
          (λ b. now l (cond b (with_date q.stamp y) y)) test in
          let b : now l (with_date q.stamp y) ≡ if_of_customer c owner y.amount = own l y s in
          let none : before l y ≡ 0 = undated_counts c (order_of_line l) (get r.orders (order_of_line l)) y
          (undated l y e s) in
          let all : gained l y ≡ if_of_customer c owner y.amount = ap (λ b. cond b (if_of_customer c owner y.amount) 0)
          test in
          omega arith
      each_line l y e (inr n) =
          let a : now l (date l y) ≡ now l y = ap (λ b. now l (cond b (with_date q.stamp y) y)) n in
          let b : now l y ≡ before l y = ap (λ (v : Option Order). amount_for c (order_of_line l) v y)
          (order_stays (order_of_line l) n) in
          let none : gained l y ≡ 0 = ap (λ b. cond b (if_of_customer c owner y.amount) 0) n in
          omega arith

  owner_now : (c : CustomerKey) → c ≡ owner → delivered_for delivered c ≡ delivered_for r c + value
  owner_now c s =
      let test : eq_by_cmp customer_cmp owner c ≡ true = ap (eq_by_cmp customer_cmp owner) s
      ∙ is_self customer_total exact_customer owner in
      delivered_now c ∙ ap (λ b. delivered_for r c + cond b value 0) test

  other_now : (c : CustomerKey) → eq_by_cmp customer_cmp c owner ≡ false → delivered_for delivered c ≡ delivered_for r c
  other_now c n =
      let none : if_of_customer c owner value ≡ 0 = ap (λ b. cond b value 0)
      (not_turned customer_total exact_customer c owner n) in
      let all = delivered_now c in
      omega arith

  delivered_10 : Condition_10 delivered
  delivered_10 c x e = go (own_or_old customer_total exact_customer r.customers owner (delivered_to value u) c x e)
    where
      go : ((c ≡ owner) × (delivered_to value u ≡ x))
          ⊎ ((eq_by_cmp customer_cmp c owner ≡ false) × (get r.customers c ≡ Some x)) → Condition_10_at delivered c x
      go (inl h) =
          let before : u.account.balance ≡ pos (delivered_for r c) -ℤ pos (paid_by r c) =
          more.condition_10 c u (ap (get r.customers) h.0 ∙ u_at) in
          subst (λ (y : Customer). Condition_10_at delivered c y) h.1
          (delivered_on u.account.balance (delivered_for r c) (paid_by r c) value (delivered_for delivered c) before
          (owner_now c h.0))
      go (inr h) = more.condition_10 c x h.1 ∙ ap (λ n. pos n -ℤ pos (paid_by r c)) (sym (other_now c h.0))

  delivered_12 : Condition_12 delivered
  delivered_12 c x e = go (own_or_old customer_total exact_customer r.customers owner (delivered_to value u) c x e)
    where
      go : ((c ≡ owner) × (delivered_to value u ≡ x))
          ⊎ ((eq_by_cmp customer_cmp c owner ≡ false) × (get r.customers c ≡ Some x)) → Condition_12_at delivered c x
      go (inl h) =
          let before : u.account.balance +ℤ pos u.account.ytd_payment ≡ pos (delivered_for r c) =
          more.condition_12 c u (ap (get r.customers) h.0 ∙ u_at) in
          subst (λ (y : Customer). Condition_12_at delivered c y) h.1
          (delivered_off u.account.balance u.account.ytd_payment (delivered_for r c) value (delivered_for delivered c)
          before (owner_now c h.0))
      go (inr h) = more.condition_12 c x h.1 ∙ ap pos (sym (other_now c h.0))

  pub delivered_more : More delivered
  delivered_more = record {
    condition_5 = delivered_5;
    condition_6 = delivered_6;
    condition_7 = delivered_7;
    condition_8 = more.condition_8;
    condition_9 = more.condition_9;
    condition_10 = delivered_10;
    condition_12 = delivered_12;
  }

pub district_more : (q : DeliveryRequest) (r after : Rows) (d : DistrictDelivery) → More r
    → district_effect q r ≡ Some (after, d) → More after
district_more q r after d more e = by_oldest (oldest q.district r.new_orders) refl e
  where
    P : Type 0
    P = More after

    by_oldest : (v : Option ℕ) → oldest q.district r.new_orders ≡ v
        → (let w : Option (Rows × DistrictDelivery) = elim v
        [ None ↦ Some (r, Skipped) | Some o ↦ delivery_of q o r ] in w) ≡ Some (after, d) → P
    by_oldest None _ e = subst More (made_by r after Skipped d e) more
    by_oldest (Some o) is e =
        there P (get r.orders (order_in q.district o)) _ _ e (λ order order_at e.
        there P (get r.customers (customer_in q.district order.customer)) _ _ e (λ u u_at e.
        there_in_range P delivered_out (delivered_to (worth (lines_of (order_in q.district o) r.order_lines)) u) _ _ e
        (λ _ e.
        let made : Rows = delivered q r more o is order order_at u u_at in
        let same : made ≡ after = made_by made after _ d e in
        subst More same (delivered_more q r more o is order order_at u u_at))))

pub delivery_more : (q : DeliveryRequest) (r after : Rows) (y : Reply) → More r → delivery_effect q r ≡ Some (after, y)
    → More after
delivery_more q r after y more e =
    there (More after) (district_effect q r) _ _ e (λ one one_is e.
    district_more q r after one.1 more (one_is ∙ ap (λ (v : Rows). Some (v, one.1)) (made_by one.0 after _ y e)))

-- districts one after another
in_turn_more : (q : DeliveriesRequest) (ds : List ℕ) (r after : Rows) (done : List DistrictDelivery) → More r
    → in_turn q ds r ≡ Some (after, done) → More after
in_turn_more q [] r after done more e = subst More (made_by r after [] done e) more
in_turn_more q (d ∷ ds) r after done more e =
    there (More after) (district_effect (in_district q d) r) _ _ e (λ one one_is e.
    there (More after) (in_turn q ds one.0) _ _ e (λ rest rest_is e.
    in_turn_more q ds one.0 after rest.1 (district_more (in_district q d) r one.0 one.1 more one_is)
    (rest_is ∙ ap (λ (v : Rows). Some (v, rest.1)) (made_by rest.0 after _ done e))))

pub deliveries_more : (q : DeliveriesRequest) (r after : Rows) (y : Reply) → More r
    → deliveries_effect q r ≡ Some (after, y) → More after
deliveries_more q r after y more e =
    there (More after) (in_turn q districts r) _ _ e (λ all all_is e.
    in_turn_more q districts r after all.1 more
    (all_is ∙ ap (λ (v : Rows). Some (v, all.1)) (made_by all.0 after _ y e)))
