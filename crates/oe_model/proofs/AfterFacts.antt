-- The tables after a transaction, row by row; and what a row more adds to a sum.
use Rattle.std.proofs.Common.{◌≡◌, ◌≢◌, ℕ, refl, sym, subst, ◌∙◌, ap, true, false, cond, List, [], ◌∷◌}
use Rattle.std.proofs.Common.{Option, Some, None, inl, inr, arith}
use Rattle.std.specs.Prelude.{◌⊎◌, ◌&&◌, option_map, is_some, fold}
use Rattle.std.specs.declared.cmp.Ordering.{Ordering}
use Rattle.std.specs.Cmp.{IsTotalOrder}
use Rattle.std.specs.Ordering.{eq_by_cmp}
use Rattle.std.specs.FinMap.{FinMap, IsAntisymmetric, get, insert, remove, empty, get-empty}
use Rattle.oe_rows.specs.Key.{customer_cmp, order_line_cmp, stock_cmp}
use Rattle.oe_rows.specs.declared.keys.OrderKey.{OrderKey}
use Rattle.oe_rows.specs.declared.keys.OrderLineKey.{OrderLineKey}
use Rattle.oe_rows.specs.declared.keys.StockKey.{StockKey}
use Rattle.oe_rows.specs.declared.keys.CustomerKey.{CustomerKey}
use Rattle.oe_rows.specs.declared.orders.Order.{Order}
use Rattle.oe_rows.specs.declared.orders.OrderLine.{OrderLine}
use Rattle.oe_rows.specs.declared.items.Stock.{Stock}
use Rattle.oe_requests.specs.declared.requests.RequestLine.{RequestLine}
use Rattle.oe_requests.specs.declared.requests.DeliveryRequest.{DeliveryRequest}
use Rattle.oe_requests.specs.declared.replies.DistrictDelivery.{DistrictDelivery}
use Rattle.oe_requests.specs.declared.replies.DistrictDelivery.TheVariants.{Skipped}
use Rattle.oe_rows.proofs.KeyFacts.{warehouse_total, exact_warehouse, district_total, exact_district, customer_total}
use Rattle.oe_rows.proofs.KeyFacts.{exact_customer, history_total, exact_history, new_order_total, exact_new_order}
use Rattle.oe_rows.proofs.KeyFacts.{order_total, exact_order, order_line_total, exact_order_line, stock_total}
use Rattle.oe_rows.proofs.KeyFacts.{exact_stock}
use Rattle.oe_model.specs.Keys.{warehouse_of_district, customer_in, customer_of_order, order_in, new_order_in}
use Rattle.oe_model.specs.Keys.{order_of_line, line_in}
use Rattle.oe_model.specs.Lists.{IsAmong}
use Rattle.oe_model.specs.Maps.{each, with_all, sum_of}
use Rattle.oe_model.specs.Rows.{Rows}
use Rattle.oe_model.specs.Choice.{customer_meant}
use Rattle.oe_model.specs.Payment.{paid_warehouse, paid_warehouse_out, paid_district, paid_district_out, paid_customer}
use Rattle.oe_model.specs.Payment.{paid_customer_out, history_key, history_row, history_data}
use Rattle.oe_model.specs.Positions.{Filled}
use Rattle.oe_model.specs.NewOrder.{stock_of, stock_after, quantities_for, after_lines, order_row, new_order_row}
use Rattle.oe_model.specs.NewOrder.{with_next}
use Rattle.oe_model.specs.NewOrder.{next_out}
use Rattle.oe_model.specs.NewOrder.{all_filled, line_entries}
use Rattle.oe_model.specs.Delivery.{lines_of, worth, with_carrier, delivered_to, delivered_out, delivery_of}
use Rattle.oe_model.specs.Delivery.{district_effect}
use Rattle.oe_model.specs.FurtherConditions.{if_of_order, if_of_customer, is_order_of, amount_for}
use Rattle.oe_model.specs.Conditions.{if_of_warehouse, if_of}
use Rattle.oe_model.specs.RowsAfter.{HasOnly, IsPaid, IsOrdered, IsDelivered, Payment_leaves, Order_leaves}
use Rattle.oe_model.specs.RowsAfter.{Delivery_leaves, Rises, IsDeliveredFor, Sums_are_exact}
use Rattle.oe_model.proofs.MapFacts.{get-each, get_own, is_self}
use Rattle.oe_model.proofs.PresenceFacts.{key_cases, get_other, gone_own, gone_other}
use Rattle.oe_model.proofs.EffectFacts.{made_by, there, there_in_range}
use Rattle.oe_model.proofs.SumFacts.{number_at, sum-insert, sum-none}

module _ {K X : Type 0} {R : K → K → Ordering} (o : IsTotalOrder R) (exact : IsAntisymmetric R) where
  put_only : (m : FinMap R X) (k : K) (x : X) → HasOnly k (Some x) m (insert m k x)
  put_only m k x = record {
    at = get_own o exact m k x;
    others = λ j n. elim (key_cases o exact j k) [
      | inl s ↦ absurd (n s)
      | inr t ↦ get_other o exact m k x j t
    ];
  }

  gone_only : (m : FinMap R X) (k : K) → HasOnly k None m (remove m k)
  gone_only m k = record {
    at = gone_own o exact m k;
    others = λ j n. elim (key_cases o exact j k) [
      | inl s ↦ absurd (n s)
      | inr t ↦ gone_other o exact m k j t
    ];
  }

pub payment_leaves : Payment_leaves
payment_leaves t k q r after y e =
    there Paid (get r.warehouses (warehouse_of_district q.district)) _ _ e (λ w w_at e.
    there_in_range Paid paid_warehouse_out (paid_warehouse q w) _ _ e (λ _ e.
    there Paid (get r.districts q.district) _ _ e (λ d d_at e.
    there_in_range Paid paid_district_out (paid_district q d) _ _ e (λ _ e.
    there Paid (customer_meant q.customer_district q.customer r.customers) _ _ e (λ c c_is e.
    there Paid (get r.customers (customer_in q.customer_district c)) _ _ e (λ x x_at e.
    there_in_range Paid paid_customer_out (paid_customer c q x) _ _ e (λ _ e.
    subst (λ (s : Rows). IsPaid t k q r s) (made_by _ after _ y e) (record {
      warehouse = w;
      warehouse_at = w_at;
      warehouses = put_only warehouse_total exact_warehouse r.warehouses (warehouse_of_district q.district)
          (paid_warehouse q w);
      district = d;
      district_at = d_at;
      districts = put_only district_total exact_district r.districts q.district (paid_district q d);
      number = c;
      choice = c_is;
      customer = x;
      customer_at = x_at;
      customers = put_only customer_total exact_customer r.customers (customer_in q.customer_district c)
          (paid_customer c q x);
      histories = put_only history_total exact_history r.histories (history_key t k)
          (history_row q c (history_data w.name d.name));
      kept = (refl, refl, refl, refl, refl);
    }))))))))
  where
    Paid : Type 0
    Paid = IsPaid t k q r after

-- lines of other orders stay
other_lines : (k : OrderKey) (fs : List Filled) (m : FinMap order_line_cmp OrderLine) (l : OrderLineKey)
    → order_of_line l ≢ k → get (with_all (line_entries k fs) m) l ≡ get m l
other_lines k [] m l n = refl
other_lines k (f ∷ fs) m l n =
    other_lines k fs (insert m (line_in k f.number) f.row) l n
    ∙ by_key (key_cases order_line_total exact_order_line l (line_in k f.number))
  where
    by_key : (l ≡ line_in k f.number) ⊎ (eq_by_cmp order_line_cmp l (line_in k f.number) ≡ false)
        → get (insert m (line_in k f.number) f.row) l ≡ get m l
    by_key (inl s) = absurd (n (ap order_of_line s))
    by_key (inr t) = get_other order_line_total exact_order_line m (line_in k f.number) f.row l t

-- a STOCK row of which no line asks stays
none_asks : (k : StockKey) (ls : List RequestLine) → ((l : RequestLine) → IsAmong l ls → stock_of l ≢ k)
    → quantities_for k ls ≡ []
none_asks k [] h = refl
none_asks k (l ∷ ls) h =
    by_key (key_cases stock_total exact_stock k (stock_of l)) (none_asks k ls (λ j among. h j (inr among)))
  where
    by_key : (k ≡ stock_of l) ⊎ (eq_by_cmp stock_cmp k (stock_of l) ≡ false) → quantities_for k ls ≡ []
        → quantities_for k (l ∷ ls) ≡ []
    by_key (inl s) rest = absurd (h l (inl refl) (sym s))
    by_key (inr t) rest = ap (λ b. cond b (l.quantity ∷ quantities_for k ls) (quantities_for k ls)) t ∙ rest

other_stocks : (home : ℕ) (ls : List RequestLine) (m : FinMap stock_cmp Stock) (k : StockKey)
    → ((l : RequestLine) → IsAmong l ls → stock_of l ≢ k) → get (each (after_lines home ls) m) k ≡ get m k
other_stocks home ls m k h = get-each stock_cmp (after_lines home ls) exact_stock m k ∙ by_row (get m k)
  where
    by_row : (v : Option Stock) → option_map (after_lines home ls k) v ≡ v
    by_row None = refl
    by_row (Some x) = ap (λ ns. Some (fold (stock_after home k) x ns)) (none_asks k ls h)

pub order_leaves : Order_leaves
order_leaves q r after y e =
    there Ordered (get r.warehouses (warehouse_of_district q.district)) _ _ e (λ w _ e.
    there Ordered (get r.districts q.district) _ _ e (λ d d_at e.
    there_in_range Ordered next_out (with_next d) _ _ e (λ _ e.
    there Ordered (get r.customers (customer_in q.district q.customer)) _ _ e (λ x _ e.
    there Ordered (all_filled q r [] q.lines) _ _ e (λ fs _ e.
    subst (λ (s : Rows). IsOrdered q r s) (made_by _ after _ y e) (record {
      district = d;
      district_at = d_at;
      districts = put_only district_total exact_district r.districts q.district (with_next d);
      orders = put_only order_total exact_order r.orders (order_in q.district d.next_order) (order_row q);
      new_orders = put_only new_order_total exact_new_order r.new_orders (new_order_in q.district d.next_order)
          new_order_row;
      order_lines = λ k n. other_lines (order_in q.district d.next_order) fs r.order_lines k n;
      stocks = λ k h. other_stocks q.district.warehouse q.lines r.stocks k h;
      kept = (refl, refl, refl, refl);
    }))))))
  where
    Ordered : Type 0
    Ordered = IsOrdered q r after

one_leaves : (q : DeliveryRequest) (r after : Rows) (d : DistrictDelivery) (o : ℕ)
    → delivery_of q o r ≡ Some (after, d) → IsDelivered q o r after
one_leaves q r after d o e =
    there Delivered (get r.orders (order_in q.district o)) _ _ e (λ x x_at e.
    there Delivered (get r.customers (customer_in q.district x.customer)) _ _ e (λ u u_at e.
    there_in_range Delivered delivered_out (delivered_to sum u) _ _ e (λ _ e.
    subst (λ (s : Rows). IsDelivered q o r s) (made_by _ after _ d e) (record {
      order = x;
      order_at = x_at;
      orders = put_only order_total exact_order r.orders (order_in q.district o) (with_carrier q.carrier x);
      new_orders = gone_only new_order_total exact_new_order r.new_orders (new_order_in q.district o);
      customer = u;
      customer_at = u_at;
      customers = put_only customer_total exact_customer r.customers (customer_in q.district x.customer)
          (delivered_to sum u);
      kept = (refl, refl, refl, refl, refl);
    }))))
  where
    Delivered : Type 0
    Delivered = IsDelivered q o r after

    sum : ℕ
    sum = worth (lines_of (order_in q.district o) r.order_lines)

pub delivery_leaves : Delivery_leaves
delivery_leaves q r after y o is e =
    there (IsDelivered q o r after) (district_effect q r) _ (after, y) e (λ one one_at e.
    subst (λ (s : Rows). IsDelivered q o r s) (made_by one.0 after _ y e)
    (one_leaves q r one.0 one.1 o (sym (ap (λ (v : Option ℕ).
    let w : Option (Rows × DistrictDelivery) = elim v [ None ↦ Some (r, Skipped) | Some o ↦ delivery_of q o r ] in w)
    is) ∙ one_at)))

-- a number counts for its own key alone
module _ {K : Type 0} {R : K → K → Ordering} (o : IsTotalOrder R) (exact : IsAntisymmetric R) where
  counts : (a b : K) (n : ℕ) → a ≡ b → cond (eq_by_cmp R a b) n 0 ≡ n
  counts a b n s = ap (λ c. cond c n 0) (ap (λ z. eq_by_cmp R z b) s ∙ is_self o exact b)

  counts_not : (a b : K) (n : ℕ) → (a ≡ b → ⊥) → cond (eq_by_cmp R a b) n 0 ≡ 0
  counts_not a b n other = elim (key_cases o exact a b) [
    | inl s ↦ absurd (other s)
    | inr t ↦ ap (λ c. cond c n 0) t
  ]

-- a row that was not there adds its number
module _ {K X : Type 0} {R : K → K → Ordering} (o : IsTotalOrder R) (exact : IsAntisymmetric R) (f : K → X → ℕ)
    (m : FinMap R X) (k : K) (x : X) (new : get m k ≡ None) where
  rises : (Own : Type 0) (n : ℕ) → (Own → f k x ≡ n) → ((Own → ⊥) → f k x ≡ 0)
      → Rises Own n (sum_of f m) (sum_of f (insert m k x))
  rises Own n own other = (
    (λ h. let a = own h in let b = sum-insert o exact f m k x in
        let c : number_at f k (get m k) ≡ 0 = ap (number_at f k) new in omega arith),
    (λ h. let a = other h in let b = sum-insert o exact f m k x in
        let c : number_at f k (get m k) ≡ 0 = ap (number_at f k) new in omega arith),
  )

module _ {K X : Type 0} {R : K → K → Ordering} (o : IsTotalOrder R) (exact : IsAntisymmetric R) (f : K → X → ℕ) where
  no_rows : (m : FinMap R X) → m ≡ empty → sum_of f m ≡ 0
  no_rows m e = sum-none o exact f m (λ k x at.
      let none : get m k ≡ None = ap (λ (n : FinMap R X). get n k) e ∙ get-empty R k in
      let no : ◌≡◌ {A = Option X} None (Some x) = sym none ∙ at in
      let z : ⊥ = cc in absurd z)

-- what a line counts for
module _ (r : Rows) (c : CustomerKey) (l : OrderLineKey) (y : OrderLine) where
  abbrev k : OrderKey
  k = order_of_line l

  counted : (v : Option Order) (w : Option ℕ) → get r.orders k ≡ v → y.delivery ≡ w → IsDeliveredFor r c l y
      → cond (is_order_of c k v && is_some w) y.amount 0 ≡ y.amount
  counted None w at d h = let no : ⊥ = nothing (sym at ∙ h.order_at) in absurd no
    where
      nothing : ◌≡◌ {A = Option Order} None (Some h.order) → ⊥
      nothing e = cc
  counted (Some x) None at d h = absurd (h.delivered d)
  counted (Some x) (Some s) at d h =
      ap (λ b. cond (b && true) y.amount 0) (ap (λ z. eq_by_cmp customer_cmp z c)
      (ap (customer_of_order k) (one (sym at ∙ h.order_at)) ∙ h.own) ∙ is_self customer_total exact_customer c)
    where
      one : ◌≡◌ {A = Option Order} (Some x) (Some h.order) → x ≡ h.order
      one e = cc

  not_counted : (v : Option Order) (w : Option ℕ) → get r.orders k ≡ v → y.delivery ≡ w → (IsDeliveredFor r c l y → ⊥)
      → cond (is_order_of c k v && is_some w) y.amount 0 ≡ 0
  not_counted None w at d other = refl
  not_counted (Some x) w at d other = by_key w d (key_cases customer_total exact_customer (customer_of_order k x) c)
    where
      some_date : (s : ℕ) → y.delivery ≡ Some s → y.delivery ≢ None
      some_date s e n = let same : ◌≡◌ {A = Option ℕ} (Some s) None = sym e ∙ n in let z : ⊥ = cc in z

      by_key : (w : Option ℕ) → y.delivery ≡ w
          → (customer_of_order k x ≡ c) ⊎ (eq_by_cmp customer_cmp (customer_of_order k x) c ≡ false)
          → cond (is_order_of c k (Some x) && is_some w) y.amount 0 ≡ 0
      by_key w d (inr t) = ap (λ b. cond (b && is_some w) y.amount 0) t
      by_key None d (inl s) =
          ap (λ b. cond (b && false) y.amount 0)
          (ap (λ z. eq_by_cmp customer_cmp z c) s ∙ is_self customer_total exact_customer c)
      by_key (Some n) d (inl s) =
          absurd (other (record { order = x; order_at = at; own = s; delivered = some_date n d }))

pub sums_are_exact : Sums_are_exact
sums_are_exact = record {
  no_lines = λ r e k c. (
    no_rows order_line_total exact_order_line (λ l y. if_of_order k (order_of_line l) 1) r.order_lines e,
    no_rows order_line_total exact_order_line
        (λ l y. amount_for c (order_of_line l) (get r.orders (order_of_line l)) y) r.order_lines e,
  );
  no_histories = λ r e w h c. (
    no_rows history_total exact_history (λ k y. if_of_warehouse w y.district y.amount) r.histories e,
    no_rows history_total exact_history (λ k y. if_of h y.district y.amount) r.histories e,
    no_rows history_total exact_history (λ k y. if_of_customer c y.customer y.amount) r.histories e,
  );
  line = λ r l y new k.
      rises order_line_total exact_order_line (λ l y. if_of_order k (order_of_line l) 1) r.order_lines l y new
      (order_of_line l ≡ k) 1 (counts order_total exact_order (order_of_line l) k 1)
      (counts_not order_total exact_order (order_of_line l) k 1);
  delivered = λ r l y new c.
      rises order_line_total exact_order_line
      (λ l y. amount_for c (order_of_line l) (get r.orders (order_of_line l)) y) r.order_lines l y new
      (IsDeliveredFor r c l y) y.amount
      (counted r c l y (get r.orders (order_of_line l)) y.delivery refl refl)
      (not_counted r c l y (get r.orders (order_of_line l)) y.delivery refl refl);
  by_warehouse = λ r k y new w.
      rises history_total exact_history (λ k y. if_of_warehouse w y.district y.amount) r.histories k y new
      (warehouse_of_district y.district ≡ w) y.amount
      (counts warehouse_total exact_warehouse (warehouse_of_district y.district) w y.amount)
      (counts_not warehouse_total exact_warehouse (warehouse_of_district y.district) w y.amount);
  by_district = λ r k y new h.
      rises history_total exact_history (λ k y. if_of h y.district y.amount) r.histories k y new
      (y.district ≡ h) y.amount (counts district_total exact_district y.district h y.amount)
      (counts_not district_total exact_district y.district h y.amount);
  by_customer = λ r k y new c.
      rises history_total exact_history (λ k y. if_of_customer c y.customer y.amount) r.histories k y new
      (y.customer ≡ c) y.amount (counts customer_total exact_customer y.customer c y.amount)
      (counts_not customer_total exact_customer y.customer c y.amount);
}
