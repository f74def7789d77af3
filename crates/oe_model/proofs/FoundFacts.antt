-- What is found in the tables: whether an order is local, a district's oldest order, a delivery's lines, a customer's
-- last order.
use Rattle.std.proofs.Common.{◌≡◌, ◌≢◌, ℕ, suc, ◌≤◌, refl, sym, subst, ◌∙◌, ap, Bool, true, false, cond, List, [], ◌∷◌}
use Rattle.std.proofs.Common.{Option, Some, None, inl, inr, arith}
use Rattle.std.specs.Prelude.{◌⊎◌, ◌==◌, option_map, find, not, nat_le}
use Rattle.std.specs.Ordering.{eq_by_cmp}
use Rattle.std.proofs.lemmas.Int.{ints}
use Rattle.std.proofs.lemmas.Bool.{leb-false, eqb-true, eq-eqb}
use Rattle.std.proofs.lemmas.List.Sums.{AllPass-from_list_all, list_all-from_AllPass}
use Rattle.std.specs.FinMap.{get, insert, entries, get-entries}
use Rattle.std.specs.FinMap.Entries as listed
use Rattle.oe_rows.specs.Key.{district_cmp, customer_cmp, new_order_cmp, order_cmp, order_line_cmp}
use Rattle.oe_rows.specs.declared.keys.DistrictKey.{DistrictKey}
use Rattle.oe_rows.specs.declared.keys.CustomerKey.{CustomerKey}
use Rattle.oe_rows.specs.declared.keys.NewOrderKey.{NewOrderKey}
use Rattle.oe_rows.specs.declared.keys.OrderKey.{OrderKey}
use Rattle.oe_rows.specs.declared.keys.OrderLineKey.{OrderLineKey}
use Rattle.oe_rows.specs.declared.customers.Customer.{Customer}
use Rattle.oe_rows.specs.declared.orders.NewOrder.{NewOrder}
use Rattle.oe_rows.specs.declared.orders.Order.{Order}
use Rattle.oe_rows.specs.declared.orders.OrderLine.{OrderLine}
use Rattle.oe_requests.specs.declared.requests.RequestLine.{RequestLine}
use Rattle.oe_requests.specs.declared.requests.DeliveryRequest.{DeliveryRequest}
use Rattle.oe_requests.specs.declared.requests.RenameRequest.{RenameRequest}
use Rattle.oe_requests.specs.declared.replies.Reply.{Reply}
use Rattle.oe_requests.specs.declared.replies.DistrictDelivery.{DistrictDelivery}
use Rattle.oe_requests.specs.declared.replies.DistrictDelivery.TheVariants.{Skipped}
use Rattle.oe_rows.proofs.KeyFacts.{district_total, exact_district, customer_total, exact_customer, new_order_total}
use Rattle.oe_rows.proofs.KeyFacts.{exact_new_order, order_total, exact_order, exact_order_line}
use Rattle.oe_model.specs.Lists.{IsAmong}
use Rattle.oe_model.specs.Keys.{customer_in, customer_of_order, district_of_new_order, new_order_in, order_of_line}
use Rattle.oe_model.specs.Keys.{order_in}
use Rattle.oe_model.specs.Rows.{Rows}
use Rattle.oe_model.specs.Conditions.{HasNewOrder}
use Rattle.oe_model.specs.Delivery.{new_orders_of, oldest, lines_of, worth, with_date, delivered_to, delivered_out}
use Rattle.oe_model.specs.Delivery.{delivery_of, district_effect}
use Rattle.oe_model.specs.Rename.{with_new_name, rename_effect}
use Rattle.oe_model.specs.Queries.{orders_of, last_order}
use Rattle.oe_model.specs.Rules.{Order_is_local, Oldest_is_least, Delivery_is_exact, Rename_is_exact, IsLastOrder}
use Rattle.oe_model.specs.Rules.{Order_is_last}
use Rattle.oe_model.proofs.MapFacts.{get-each, is_same, is_self}
use Rattle.oe_model.proofs.EntryFacts.{get_kept, entries_at, row_among}
use Rattle.oe_model.proofs.ListFacts.{each_among, none_is, found_passes, none_passes, unbeaten, top, kept_among}
use Rattle.oe_model.proofs.ListFacts.{each_kept, not_above}
use Rattle.oe_model.proofs.PresenceFacts.{missing, key_cases, get_other}
use Rattle.oe_model.proofs.EffectFacts.{made_by, there, there_in_range}
use Rattle.oe_model.proofs.QueueFacts.{oldest_least}

pub order_is_local : Order_is_local
order_is_local q = (
  λ e k d low. eqb-true _ _
      (AllPass-from_list_all (λ (l : RequestLine). l.supply == q.district.warehouse) q.lines e k d low),
  λ h. list_all-from_AllPass (λ (l : RequestLine). l.supply == q.district.warehouse) q.lines
      (λ k d low. eq-eqb _ _ (h k d low)),
)

-- where the queue is empty there is no NEW-ORDER row of the district
module _ (r : Rows) (h : DistrictKey) where
  no_entries : (es : List (NewOrderKey × NewOrder))
      → (let v : Option ℕ = elim es [ [] ↦ None | e ∷ es ↦ Some e.0.order ] in v) ≡ None → (k : NewOrderKey)
      → listed.find new_order_cmp k es ≡ None
  no_entries [] e k = refl
  no_entries (x ∷ es) e k = let no : ⊥ = cc in absurd no

  none_waits : oldest h r.new_orders ≡ None → (o : ℕ) → HasNewOrder r h o → ⊥
  none_waits e o p =
      missing (get r.new_orders (new_order_in h o)) p
      (sym (ap (λ b. cond b (get r.new_orders (new_order_in h o)) None) (is_self district_total exact_district h))
      ∙ sym (get_kept new_order_total exact_new_order r.new_orders
      (λ k. eq_by_cmp district_cmp (district_of_new_order k) h) (new_order_in h o))
      ∙ get-entries (new_orders_of h r.new_orders) (new_order_in h o)
      ∙ no_entries (entries (new_orders_of h r.new_orders))
      e (new_order_in h o))

pub oldest_is_least : Oldest_is_least
oldest_is_least = record { least = λ r h o e. oldest_least h r.new_orders o e; none = none_waits }

-- a delivery's lines
module _ (q : DeliveryRequest) (r after : Rows) (d : DistrictDelivery) (o : ℕ) (k : OrderLineKey) (x : OrderLine)
    (at : get r.order_lines k ≡ Some x) where
  abbrev j : OrderKey
  j = order_in q.district o

  abbrev dates : OrderLineKey → OrderLine → OrderLine
  dates k x = cond (eq_by_cmp order_cmp (order_of_line k) j) (with_date q.stamp x) x

  abbrev Dated : Rows → Type 0
  Dated s = (order_of_line k ≡ j → get s.order_lines k ≡ Some (with_date q.stamp x))
      × (order_of_line k ≢ j → get s.order_lines k ≡ Some x)

  dated_so : (b : Bool) → eq_by_cmp order_cmp (order_of_line k) j ≡ b → (s : Rows)
      → get s.order_lines k ≡ Some (cond b (with_date q.stamp x) x) → Dated s
  dated_so true t s e = ((λ _. e), (λ n. absurd (n (is_same order_total exact_order (order_of_line k) j t))))
  dated_so false t s e = (
    (λ same. let no : true ≡ false = sym (is_self order_total exact_order j)
        ∙ ap (λ z. eq_by_cmp order_cmp z j) (sym same) ∙ t in absurd (let z : ⊥ = cc in z)),
    (λ _. e),
  )

  lines_of_effect : delivery_of q o r ≡ Some (after, d) → Dated after
  lines_of_effect e =
      there (Dated after) (get r.orders j) _ _ e (λ order _ e.
      there (Dated after) (get r.customers (customer_in q.district order.customer)) _ _ e (λ u _ e.
      there_in_range (Dated after) delivered_out (delivered_to (worth (lines_of j r.order_lines)) u) _ _ e (λ _ e.
      dated_so (eq_by_cmp order_cmp (order_of_line k) j) refl after
      (sym (ap (λ (s : Rows). get s.order_lines k) (made_by _ after _ d e))
      ∙ get-each order_line_cmp dates exact_order_line r.order_lines k ∙ ap (option_map (dates k)) at))))

pub delivery_is_exact : Delivery_is_exact
delivery_is_exact = record {
  balance = λ sum x. omega (arith, ints);
  count = λ sum x. refl;
  others = λ sum x. refl;
  lines = λ q r after y o k x is e at.
      (let all : Type 0 = (order_of_line k ≡ order_in q.district o → get after.order_lines k
      ≡ Some (with_date q.stamp x))
      × (order_of_line k ≢ order_in q.district o → get after.order_lines k ≡ Some x) in
      there all (district_effect q r) _ (after, y) e (λ one one_at e.
      subst (λ (s : Rows). (order_of_line k ≡ order_in q.district o → get s.order_lines k ≡ Some (with_date q.stamp x))
      × (order_of_line k ≢ order_in q.district o → get s.order_lines k ≡ Some x)) (made_by one.0 after _ y e)
      (lines_of_effect q r one.0 one.1 o k x at
      (sym (ap (λ (v : Option ℕ). let w : Option (Rows × DistrictDelivery) = elim v
      [ None ↦ Some (r, Skipped) | Some o ↦ delivery_of q o r ] in w) is) ∙ one_at))));
}

-- a rename leaves each other customer as it is
other_stays : (q : RenameRequest) (r after : Rows) (y : Reply) (k : CustomerKey) → rename_effect q r ≡ Some (after, y)
    → k ≢ q.customer → get after.customers k ≡ get r.customers k
other_stays q r after y k e n =
    there (get after.customers k ≡ get r.customers k) (get r.customers q.customer) _ _ e (λ x _ e.
    sym (ap (λ (s : Rows). get s.customers k) (made_by _ after _ y e))
    ∙ by_case x (key_cases customer_total exact_customer k q.customer))
  where
    by_case : (x : Customer) → (k ≡ q.customer) ⊎ (eq_by_cmp customer_cmp k q.customer ≡ false)
        → get (insert r.customers q.customer (with_new_name q x)) k ≡ get r.customers k
    by_case x (inl s) = absurd (n s)
    by_case x (inr t) = get_other customer_total exact_customer r.customers q.customer (with_new_name q x) k t

pub rename_is_exact : Rename_is_exact
rename_is_exact = record {
  last = λ q x. refl;
  first = λ q x. refl;
  others = λ q x. refl;
  alone = other_stays;
}

-- Order-Status finds the customer's last order
module _ (r : Rows) (k : CustomerKey) where
  abbrev es : List (OrderKey × Order)
  es = orders_of k r.orders

  abbrev is_last : List (OrderKey × Order) → OrderKey × Order → Bool
  is_last xs e = not (Rattle.std.specs.List.list_any (λ g. nat_le (suc e.0.order) g.0.order) xs)

  is_listed : (j : OrderKey) (y : Order) → get r.orders j ≡ Some y → customer_of_order j y ≡ k → IsAmong (j, y) es
  is_listed j y at own =
      kept_among (λ e. eq_by_cmp customer_cmp (customer_of_order e.0 e.1) k) (entries r.orders) (j, y)
      (row_among order_total exact_order r.orders j y at)
      (ap (λ (c : CustomerKey). eq_by_cmp customer_cmp c k) own ∙ is_self customer_total exact_customer k)

  found : (e : OrderKey × Order) → last_order k r.orders ≡ Some e → IsLastOrder r k e
  found e is =
      let own = each_among (λ e. (get r.orders e.0 ≡ Some e.1)
      × (eq_by_cmp customer_cmp (customer_of_order e.0 e.1) k ≡ true)) es e
      (each_kept (λ e. get r.orders e.0 ≡ Some e.1) (λ e. eq_by_cmp customer_cmp (customer_of_order e.0 e.1) k)
      (entries r.orders) (entries_at order_total r.orders))
      (found_passes (is_last es) es e is).1 in
      record {
        there = own.0;
        own = is_same customer_total exact_customer (customer_of_order e.0 e.1) k own.1;
        last = λ j y at is_own.
            let less = leb-false (suc e.0.order) j.order
            (unbeaten (λ e g. nat_le (suc e.0.order) g.0.order) es e (j, y) is (is_listed j y at is_own)) in
            (let z : j.order ≤ e.0.order = omega arith in z);
      }

  nothing : (xs : List (OrderKey × Order)) (e : OrderKey × Order) → IsAmong e xs → find (is_last xs) xs ≡ None → ⊥
  nothing [] e i is = i
  nothing (x ∷ xs) e i is =
      let t = top (λ e. e.0.order) x xs in
      none_passes (is_last (x ∷ xs)) (x ∷ xs) t.0 is t.1
      (ap not (none_is (λ g. nat_le (suc t.0.0.order) g.0.order) (x ∷ xs)
      (λ g j. not_above t.0.0.order g.0.order (t.2 g j))))

pub order_is_last : Order_is_last
order_is_last = record {
  some = λ r k e is. found r k e is;
  none = λ r k is j y at own. nothing r k (es r k) (j, y)
      (is_listed r k j y at own) is;
}
