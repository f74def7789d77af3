-- New-Order keeps conditions 5 to 10 and 12.
use Rattle.std.proofs.Common.{◌≡◌, ℕ, ◌+◌, refl, sym, ◌∙◌, ap, subst, Bool, true, false, cond, List, [], ◌∷◌, length}
use Rattle.std.proofs.Common.{Option, Some, None, inl, inr, arith, pos, ◌-ℤ◌}
use Rattle.std.specs.Prelude.{◌⊎◌, ◌↔◌, ◌&&◌, IsSome, is_some, sum_by}
use Rattle.std.specs.Ordering.{eq_by_cmp}
use Rattle.std.specs.FinMap.{get, insert}
use Rattle.oe_rows.specs.Key.{order_cmp}
use Rattle.oe_rows.specs.declared.keys.DistrictKey.{DistrictKey}
use Rattle.oe_rows.specs.declared.keys.CustomerKey.{CustomerKey}
use Rattle.oe_rows.specs.declared.keys.NewOrderKey.{NewOrderKey}
use Rattle.oe_rows.specs.declared.keys.OrderKey.{OrderKey}
use Rattle.oe_rows.specs.declared.keys.OrderLineKey.{OrderLineKey}
use Rattle.oe_rows.specs.declared.districts.District.{District}
use Rattle.oe_rows.specs.declared.orders.Order.{Order}
use Rattle.oe_rows.specs.declared.orders.OrderLine.{OrderLine}
use Rattle.oe_requests.specs.declared.requests.NewOrderRequest.{NewOrderRequest}
use Rattle.oe_requests.specs.declared.replies.Reply.{Reply}
use Rattle.oe_rows.proofs.KeyFacts.{district_total, exact_district, new_order_total, exact_new_order, order_total}
use Rattle.oe_rows.proofs.KeyFacts.{exact_order, order_line_total, exact_order_line}
use Rattle.oe_model.specs.Keys.{warehouse_of_district, district_of_order, order_of_line, customer_in, order_in}
use Rattle.oe_model.specs.Keys.{new_order_in, line_in}
use Rattle.oe_model.specs.Rows.{Rows}
use Rattle.oe_model.specs.Maps.{each, with_all, sum_of}
use Rattle.oe_model.specs.Meets.{Meets}
use Rattle.oe_model.specs.Positions.{Filled}
use Rattle.oe_model.specs.NewOrder.{next_out, after_lines, all_filled, order_row, new_order_row, with_next}
use Rattle.oe_model.specs.NewOrder.{line_entries, new_order_effect}
use Rattle.oe_model.specs.Conditions.{Condition_2, HasNewOrder}
use Rattle.oe_model.specs.FurtherConditions.{More, if_of_order, lines_of_order, paid_in_district, paid_by, is_order_of}
use Rattle.oe_model.specs.FurtherConditions.{amount_for, delivered_for, Condition_5, Condition_5_at, Condition_6}
use Rattle.oe_model.specs.FurtherConditions.{Condition_7, Condition_7_at, Condition_9, Condition_10, Condition_12}
use Rattle.oe_model.proofs.MapFacts.{is_self, get_own}
use Rattle.oe_model.proofs.EntryFacts.{EachOf}
use Rattle.oe_model.proofs.SumFacts.{sum-none}
use Rattle.oe_model.proofs.EffectFacts.{made_by, there, there_in_range}
use Rattle.oe_model.proofs.PresenceFacts.{missing, key_cases, not_turned, get_other, own_or_old, each_row, present_own}
use Rattle.oe_model.proofs.NewOrderFacts.{IsFresh}
use Rattle.oe_model.proofs.NewOrderGood.{AreLines, lines_are, sum-with_all, ones, zeros, is_fresh}
use Rattle.oe_consistency.proofs.RowSums.{sum_alike, rows_of_all}

-- a line without a date counts for no customer
pub undated_counts : (c : CustomerKey) (k : OrderKey) (x : Option Order) (y : OrderLine) → y.delivery ≡ None
    → amount_for c k x y ≡ 0
undated_counts c k x y e = ap (λ (v : Option ℕ). cond (is_order_of c k x && is_some v) y.amount 0) e
    ∙ by_test (is_order_of c k x)
  where
    by_test : (b : Bool) → cond (b && false) y.amount 0 ≡ 0
    by_test true = refl
    by_test false = refl

module _ (q : NewOrderRequest) (r : Rows) (more : More r) (meets : Meets r) (second : Condition_2 r) (d : District)
    (d_at : get r.districts q.district ≡ Some d)
    (fs : List Filled) (fs_are : all_filled q r [] q.lines ≡ Some fs) where
  abbrev h0 : DistrictKey
  h0 = q.district

  abbrev k : OrderKey
  k = order_in h0 d.next_order

  abbrev j : NewOrderKey
  j = new_order_in h0 d.next_order

  abbrev pub ordered : Rows
  ordered = record r {
    districts = insert r.districts h0 (with_next d);
    orders = insert r.orders k (order_row q);
    new_orders = insert r.new_orders j new_order_row;
    order_lines = with_all (line_entries k fs) r.order_lines;
    stocks = each (after_lines q.district.warehouse q.lines) r.stocks;
  }

  new : IsFresh r h0 d.next_order
  new = is_fresh r meets second h0 d d_at

  are : AreLines q r [] q.lines fs
  are = lines_are q r q.lines [] fs fs_are

  -- a key of an order that was there is another one
  apart : (i : OrderKey) → IsSome (get r.orders i) → eq_by_cmp order_cmp i k ≡ false
  apart i p = go (key_cases order_total exact_order i k)
    where
      go : (i ≡ k) ⊎ (eq_by_cmp order_cmp i k ≡ false) → eq_by_cmp order_cmp i k ≡ false
      go (inl s) = absurd (missing (get r.orders i) p (ap (get r.orders) s ∙ new.order))
      go (inr e) = e

  line_apart : (l : OrderLineKey) (y : OrderLine) → get r.order_lines l ≡ Some y
      → eq_by_cmp order_cmp (order_of_line l) k ≡ false
  line_apart l y e = apart (order_of_line l) (meets.order_lines l y e).0

  order_stays : (i : OrderKey) → eq_by_cmp order_cmp i k ≡ false → get ordered.orders i ≡ get r.orders i
  order_stays i e = get_other order_total exact_order r.orders k (order_row q) i e

  -- a line is one that was put in, without a date, or stood there before, of another order
  abbrev IsLine : OrderLineKey → OrderLine → Type 0
  IsLine l y = ((order_of_line l ≡ k) × (y.delivery ≡ None))
      ⊎ ((eq_by_cmp order_cmp (order_of_line l) k ≡ false) × (get r.order_lines l ≡ Some y))

  each_line : (l : OrderLineKey) (y : OrderLine) → get ordered.order_lines l ≡ Some y → IsLine l y
  each_line = rows_of_all order_line_total exact_order_line IsLine (line_entries k fs) r.order_lines
      (put fs are.undated) (λ l y e. inr (line_apart l y e, e))
    where
      put : (gs : List Filled) → EachOf (λ (f : Filled). f.row.delivery ≡ None) gs
          → EachOf (λ (e : OrderLineKey × OrderLine). IsLine e.0 e.1) (line_entries k gs)
      put [] h = tt
      put (g ∷ gs) h = (inl (refl, h.0), put gs h.1)

  ordered_5 : Condition_5 ordered
  ordered_5 i x e = go (own_or_old order_total exact_order r.orders k (order_row q) i x e)
    where
      own : Condition_5_at ordered k (order_row q)
      own = (λ _. present_own new_order_total exact_new_order r.new_orders j new_order_row, λ _. refl)

      go : ((i ≡ k) × (order_row q ≡ x)) ⊎ ((eq_by_cmp order_cmp i k ≡ false) × (get r.orders i ≡ Some x))
          → Condition_5_at ordered i x
      go (inl h) = subst (λ (y : Order). Condition_5_at ordered i y) h.1
          (subst (λ (n : OrderKey). Condition_5_at ordered n (order_row q)) (sym h.0) own)
      go (inr h) =
          let old : (x.carrier ≡ None) ↔ HasNewOrder r (district_of_order i) i.order = more.condition_5 i x h.1 in
          let same : get ordered.new_orders (new_order_in (district_of_order i) i.order) ≡ get r.new_orders
          (new_order_in (district_of_order i) i.order) =
          get_other new_order_total exact_new_order r.new_orders j new_order_row
          (new_order_in (district_of_order i) i.order) h.0 in
          (λ v. ap is_some same ∙ old.0 v, λ p. old.1 (ap is_some (sym same) ∙ p))

  count : (i : OrderKey) → lines_of_order ordered i ≡ lines_of_order r i + sum_by (λ (f : Filled). if_of_order i k 1) fs
  count i = sum-with_all k (λ l y. if_of_order i (order_of_line l) 1) (if_of_order i k 1) (λ n x. refl) fs 0
      r.order_lines are.numbered (λ n less. new.lines n)

  ordered_6 : Condition_6 ordered
  ordered_6 i x e = go (own_or_old order_total exact_order r.orders k (order_row q) i x e)
    where
      by_test : (b : Bool) → b ≡ false → sum_by (λ (f : Filled). cond b 1 0) fs ≡ 0
      by_test b t = ap (λ c. sum_by (λ (f : Filled). cond c 1 0) fs) t ∙ zeros fs

      own : (b : Bool) → b ≡ true → sum_by (λ (f : Filled). cond b 1 0) fs ≡ length fs
      own b t = ap (λ c. sum_by (λ (f : Filled). cond c 1 0) fs) t ∙ ones fs

      no_lines : i ≡ k → lines_of_order r i ≡ 0
      no_lines s =
          sum-none order_line_total exact_order_line (λ l y. if_of_order i (order_of_line l) 1) r.order_lines
          (λ l y f. ap (λ (n : OrderKey). if_of_order n (order_of_line l) 1) s
          ∙ ap (λ b. cond b 1 0) (line_apart l y f))

      go : ((i ≡ k) × (order_row q ≡ x)) ⊎ ((eq_by_cmp order_cmp i k ≡ false) × (get r.orders i ≡ Some x))
          → x.line_count ≡ lines_of_order ordered i
      go (inl h) =
          let none = no_lines h.0 in
          let test : eq_by_cmp order_cmp k i ≡ true = ap (eq_by_cmp order_cmp k) h.0
          ∙ is_self order_total exact_order k in
          let all = own (eq_by_cmp order_cmp k i) test in
          let sum = count i in
          let asked : length q.lines ≡ x.line_count = ap (λ (y : Order). y.line_count) h.1 in
          let many : length fs ≡ length q.lines = are.count in
          omega arith
      go (inr h) =
          let old : x.line_count ≡ lines_of_order r i = more.condition_6 i x h.1 in
          let none = by_test (eq_by_cmp order_cmp k i) (not_turned order_total exact_order i k h.0) in
          let sum = count i in
          omega arith

  ordered_7 : Condition_7 ordered
  ordered_7 l y e = go (each_line l y e)
    where
      go : IsLine l y → Condition_7_at ordered l y
      go (inl h) x f =
          let own : Some (order_row q) ≡ Some x = sym (get_own order_total exact_order r.orders k (order_row q))
          ∙ ap (get ordered.orders) (sym h.0) ∙ f in
          let row : order_row q ≡ x = cc in
          (λ _. ap (λ (z : Order). z.carrier) (sym row), λ _. h.1)
      go (inr h) x f = more.condition_7 l y h.1 x (sym (order_stays (order_of_line l) h.0) ∙ f)

  ordered_9 : Condition_9 ordered
  ordered_9 =
      each_row district_total exact_district (λ h x. x.ytd ≡ paid_in_district r h) r.districts h0 (with_next d)
      (more.condition_9 h0 d d_at) (λ h x e. more.condition_9 h x e)

  -- what is delivered stays
  delivered_same : (c : CustomerKey) → delivered_for ordered c ≡ delivered_for r c
  delivered_same c =
      sum_alike order_line_total exact_order_line now old_alone ordered.order_lines
      (λ l y e. alike l y (each_line l y e))
      ∙ with_none
      ∙ sym (sum_alike order_line_total exact_order_line before old_alone r.order_lines
      (λ l y e. ap (λ b. cond b 0 (before l y)) (sym (line_apart l y e))))
    where
      now : OrderLineKey → OrderLine → ℕ
      now l y = amount_for c (order_of_line l) (get ordered.orders (order_of_line l)) y

      before : OrderLineKey → OrderLine → ℕ
      before l y = amount_for c (order_of_line l) (get r.orders (order_of_line l)) y

      old_alone : OrderLineKey → OrderLine → ℕ
      old_alone l y = cond (eq_by_cmp order_cmp (order_of_line l) k) 0 (before l y)

      alike : (l : OrderLineKey) (y : OrderLine) → IsLine l y → now l y ≡ old_alone l y
      alike l y (inl h) =
          undated_counts c (order_of_line l) (get ordered.orders (order_of_line l)) y h.1
          ∙ ap (λ b. cond b 0 (before l y))
          (sym (ap (λ (i : OrderKey). eq_by_cmp order_cmp i k) h.0 ∙ is_self order_total exact_order k))
      alike l y (inr h) =
          ap (λ (v : Option Order). amount_for c (order_of_line l) v y) (order_stays (order_of_line l) h.0)
          ∙ ap (λ b. cond b 0 (before l y)) (sym h.0)

      with_none : sum_of old_alone ordered.order_lines ≡ sum_of old_alone r.order_lines
      with_none =
          let all = sum-with_all k old_alone 0
          (λ n x. ap (λ b. cond b 0 (before (line_in k n) x)) (is_self order_total exact_order k)) fs 0
          r.order_lines are.numbered (λ n less. new.lines n) in
          let none = zeros fs in
          omega arith

  ordered_10 : Condition_10 ordered
  ordered_10 c x e = more.condition_10 c x e ∙ ap (λ n. pos n -ℤ pos (paid_by r c)) (sym (delivered_same c))

  ordered_12 : Condition_12 ordered
  ordered_12 c x e = more.condition_12 c x e ∙ ap pos (sym (delivered_same c))

  pub ordered_more : More ordered
  ordered_more = record {
    condition_5 = ordered_5;
    condition_6 = ordered_6;
    condition_7 = ordered_7;
    condition_8 = more.condition_8;
    condition_9 = ordered_9;
    condition_10 = ordered_10;
    condition_12 = ordered_12;
  }

pub new_order_more : (q : NewOrderRequest) (r after : Rows) (y : Reply) → Meets r → Condition_2 r → More r
    → new_order_effect q r ≡ Some (after, y) → More after
new_order_more q r after y meets second more e =
    let P : Type 0 = More after in
    there P (get r.warehouses (warehouse_of_district q.district)) _ _ e (λ w _ e.
    there P (get r.districts q.district) _ _ e (λ d d_at e.
    there_in_range P next_out (with_next d) _ _ e (λ _ e.
    there P (get r.customers (customer_in q.district q.customer)) _ _ e (λ u _ e.
    there P (all_filled q r [] q.lines) _ _ e (λ fs fs_are e.
    let made : Rows = ordered q r more meets second d d_at fs fs_are in
    let same : made ≡ after = made_by made after _ y e in
    subst More same (ordered_more q r more meets second d d_at fs fs_are))))))
