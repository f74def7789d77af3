-- New-Order keeps the seven movements.
use Rattle.std.proofs.Common.{◌≡◌, ℕ, ◌+◌, ◌<◌, refl, sym, ◌∙◌, ap, subst, Bool, true, false, cond, Some}
use Rattle.std.proofs.Common.{List, [], inl, inr, arith}
use Rattle.std.specs.Prelude.{◌⊎◌, ◌↔◌, ◌&&◌, ◌==◌, nat_lt, sum_by}
use Rattle.std.specs.Ordering.{eq_by_cmp}
use Rattle.std.specs.FinMap.{get, insert}
use Rattle.std.proofs.lemmas.Bool.{lt-ltb}
use Rattle.oe_rows.specs.Key.{order_cmp, customer_cmp}
use Rattle.oe_rows.specs.declared.keys.CustomerKey.{CustomerKey}
use Rattle.oe_rows.specs.declared.keys.NewOrderKey.{NewOrderKey}
use Rattle.oe_rows.specs.declared.keys.OrderKey.{OrderKey}
use Rattle.oe_rows.specs.declared.keys.OrderLineKey.{OrderLineKey}
use Rattle.oe_rows.specs.declared.keys.StockKey.{StockKey}
use Rattle.oe_rows.specs.declared.districts.District.{District}
use Rattle.oe_rows.specs.declared.orders.Order.{Order}
use Rattle.oe_rows.specs.declared.orders.OrderLine.{OrderLine}
use Rattle.oe_rows.specs.declared.items.Stock.{Stock}
use Rattle.oe_requests.specs.declared.requests.NewOrderRequest.{NewOrderRequest}
use Rattle.oe_requests.specs.declared.replies.Reply.{Reply}
use Rattle.oe_rows.proofs.KeyFacts.{district_total, exact_district, new_order_total, exact_new_order, order_total}
use Rattle.oe_rows.proofs.KeyFacts.{exact_order, order_line_total, exact_order_line, stock_total, exact_stock}
use Rattle.oe_model.specs.Keys.{warehouse_of_district, order_of_line, customer_of_order, supply_of_line, customer_in}
use Rattle.oe_model.specs.Keys.{order_in, new_order_in, line_in}
use Rattle.oe_model.specs.Rows.{Rows}
use Rattle.oe_model.specs.Maps.{each, with_all, sum_of}
use Rattle.oe_model.specs.Meets.{Meets}
use Rattle.oe_model.specs.Positions.{Filled}
use Rattle.oe_model.specs.Requests.{IsNewOrder}
use Rattle.oe_model.specs.NewOrder.{next_out, stock_after, after_lines, all_filled, order_row, new_order_row, with_next}
use Rattle.oe_model.specs.NewOrder.{line_entries, new_order_effect}
use Rattle.oe_model.specs.Conditions.{Condition_2}
use Rattle.oe_model.specs.FurtherConditions.{if_of_order}
use Rattle.oe_model.proofs.MapFacts.{is_self}
use Rattle.oe_model.proofs.SumFacts.{number_at, sum-insert, sum-none}
use Rattle.oe_model.proofs.EffectFacts.{made_by, there, there_in_range}
use Rattle.oe_model.proofs.PresenceFacts.{not_turned, own_or_old, each_row, row_of_each, missing, key_cases}
use Rattle.oe_model.proofs.NewOrderFacts.{IsFresh}
use Rattle.oe_model.proofs.NewOrderGood.{AreLines, lines_are, zeros, is_fresh}
use Rattle.oe_movements.specs.Movements.{delivered_of, is_ordered, order_sum, quantity_of, one_line, one_remote}
use Rattle.oe_movements.specs.Movements.{is_delivered_to, deliveries_to}
use Rattle.oe_movements.specs.Movements.{Stock_quantity, Stock_quantity_at, Movements, IsNumberedFirst}
use Rattle.oe_movements.proofs.LineFacts.{AreAsked, are_asked, sum_of_lines, counted, after_figure, after_quantity}
use Rattle.oe_movements.proofs.LocalFacts.{remotes_of, IsCounted, to_counted, from_counted}
use Rattle.oe_movements.proofs.LineFacts.{remote, all_local}

module _ (initial : ℕ) (q : NewOrderRequest) (r : Rows) (first : IsNumberedFirst initial r) (m : Movements initial r)
    (meets : Meets r) (second : Condition_2 r) (valid : IsNewOrder q) (d : District)
    (d_at : get r.districts q.district ≡ Some d)
    (fs : List Filled) (fs_are : all_filled q r [] q.lines ≡ Some fs) where
  abbrev home : ℕ
  home = q.district.warehouse

  abbrev k : OrderKey
  k = order_in q.district d.next_order

  abbrev j : NewOrderKey
  j = new_order_in q.district d.next_order

  abbrev pub made : Rows
  made = record r {
    districts = insert r.districts q.district (with_next d);
    orders = insert r.orders k (order_row q);
    new_orders = insert r.new_orders j new_order_row;
    order_lines = with_all (line_entries k fs) r.order_lines;
    stocks = each (after_lines q.district.warehouse q.lines) r.stocks;
  }

  new : IsFresh r q.district d.next_order
  new = is_fresh r meets second q.district d d_at

  are : AreLines q r [] q.lines fs
  are = lines_are q r q.lines [] fs fs_are

  asked : AreAsked q.lines fs
  asked = are_asked q r q.lines [] fs fs_are

  above : initial < d.next_order
  above = first.next_orders q.district d d_at

  later : nat_lt initial k.order ≡ true
  later = lt-ltb initial d.next_order above

  -- each sum over lines has those of the order besides
  lines_more : (F : OrderLineKey → OrderLine → ℕ) → sum_of F made.order_lines ≡ sum_of F r.order_lines
      + sum_by (λ (f : Filled). F (line_in k f.number) f.row) fs
  lines_more F = sum_of_lines k F fs 0 r.order_lines are.numbered (λ n less. new.lines n)

  -- a figure of a stock row still is the sum of what its lines count
  figure_now : (figure : Stock → ℕ) (counts : OrderLineKey → OrderLine → ℕ)
      → ((i : StockKey) (x : Stock) (f : Filled) (n : ℕ) → supply_of_line f.row ≡ i → f.row.quantity ≡ n
      → figure (stock_after home i x n) ≡ figure x + counts (line_in k f.number) f.row)
      → ((i : StockKey) (x : Stock) → get r.stocks i ≡ Some x → figure x ≡ order_sum counts initial r i)
      → (i : StockKey) (x : Stock) → get made.stocks i ≡ Some x → figure x ≡ order_sum counts initial made i
  figure_now figure counts one before i x e =
      let row = row_of_each stock_total exact_stock (after_lines home q.lines) r.stocks i x e in
      let old : figure row.0 ≡ order_sum counts initial r i = before i row.0 row.1 in
      let grown : figure (after_lines home q.lines i row.0) ≡ figure row.0
      + sum_by (counted initial home k later figure counts i (one i)) fs =
      after_figure initial home k later figure counts i (one i) q.lines fs row.0 asked in
      let same : figure (after_lines home q.lines i row.0) ≡ figure x = ap figure row.2 in
      let more = lines_more (λ l y. cond (is_ordered initial i l y) (counts l y) 0) in
      omega arith

  remote_counts : (i : StockKey) (x : Stock) (f : Filled) (n : ℕ) → supply_of_line f.row ≡ i → f.row.quantity ≡ n
      → (stock_after home i x n).remote_count ≡ x.remote_count + one_remote (line_in k f.number) f.row
  remote_counts i x f n s e =
      by_test (i.warehouse == home) ∙ ap (λ (t : Bool). x.remote_count + cond t 0 1)
      (ap (λ (v : StockKey). v.warehouse == home) (sym s))
    where
      by_test : (b : Bool) → cond b x.remote_count (x.remote_count + 1) ≡ x.remote_count + cond b 0 1
      by_test true = omega arith
      by_test false = refl

  quantity_now : Stock_quantity made
  quantity_now i x e =
      let row = row_of_each stock_total exact_stock (after_lines home q.lines) r.stocks i x e in
      subst Stock_quantity_at row.2 (after_quantity home i q.lines row.0 valid.lines (m.stock_quantity i row.0 row.1))

  -- the order has no carrier yet
  deliveries_same : (c : CustomerKey) → deliveries_to initial made c ≡ deliveries_to initial r c
  deliveries_same c =
      let of : OrderKey → Order → ℕ = λ i x. cond (is_delivered_to initial c i x) 1 0 in
      let sum : deliveries_to initial made c + number_at of k (get r.orders k) ≡ deliveries_to initial r c
      + of k (order_row q) = sum-insert order_total exact_order of r.orders k (order_row q) in
      let none : number_at of k (get r.orders k) ≡ 0 = ap (number_at of k) new.order in
      let own : of k (order_row q) ≡ 0 = by_test (eq_by_cmp customer_cmp (customer_of_order k (order_row q)) c) in
      omega arith
    where
      by_test : (b : Bool) → ◌≡◌ {A = ℕ} (cond (b && false && nat_lt (delivered_of initial) k.order) 1 0) 0
      by_test true = refl
      by_test false = refl

  remotes_more : (i : OrderKey) → remotes_of made i ≡ remotes_of r i
      + sum_by (λ (f : Filled). if_of_order i k (remote home k refl f)) fs
  remotes_more i = lines_more (λ l y. if_of_order i (order_of_line l) (one_remote l y))

  -- an order that was there is another one
  line_apart : (l : OrderLineKey) (y : OrderLine) → get r.order_lines l ≡ Some y
      → eq_by_cmp order_cmp (order_of_line l) k ≡ false
  line_apart l y e = go (key_cases order_total exact_order (order_of_line l) k)
    where
      go : (order_of_line l ≡ k) ⊎ (eq_by_cmp order_cmp (order_of_line l) k ≡ false)
          → eq_by_cmp order_cmp (order_of_line l) k ≡ false
      go (inl s) = absurd
          (missing (get r.orders (order_of_line l)) (meets.order_lines l y e).0 (ap (get r.orders) s ∙ new.order))
      go (inr t) = t

  no_lines : remotes_of r k ≡ 0
  no_lines = sum-none order_line_total exact_order_line (λ l y. if_of_order k (order_of_line l) (one_remote l y))
      r.order_lines (λ l y e. ap (λ b. cond b (one_remote l y) 0) (line_apart l y e))

  local_now : IsCounted made
  local_now i x e = go (own_or_old order_total exact_order r.orders k (order_row q) i x e)
    where
      own : ((order_row q).all_local ≡ true) ↔ (remotes_of made k ≡ 0)
      own =
          let sum = remotes_more k in
          let none = no_lines in
          let mine : sum_by (λ (f : Filled). if_of_order k k (remote home k refl f)) fs ≡ sum_by
          (remote home k refl) fs = ap (λ b. sum_by (λ (f : Filled). cond b (remote home k refl f) 0) fs)
          (is_self order_total exact_order k) in
          let lines = all_local home k refl q.lines fs asked in (
            λ t. let h : sum_by (remote home k refl) fs ≡ 0 = lines.0 t in
                omega arith,
            λ t. lines.1 (let h : sum_by (remote home k refl) fs ≡ 0 = omega arith in h),
          )

      go : ((i ≡ k) × (order_row q ≡ x)) ⊎ ((eq_by_cmp order_cmp i k ≡ false) × (get r.orders i ≡ Some x))
          → (x.all_local ≡ true) ↔ (remotes_of made i ≡ 0)
      go (inl h) = subst (λ (y : Order). (y.all_local ≡ true) ↔ (remotes_of made i ≡ 0)) h.1
          (subst (λ (n : OrderKey). ((order_row q).all_local ≡ true) ↔ (remotes_of made n ≡ 0)) (sym h.0) own)
      go (inr h) =
          let old : (x.all_local ≡ true) ↔ (remotes_of r i ≡ 0) = to_counted r m.all_local i x h.1 in
          let sum = remotes_more i in
          let none : sum_by (λ (f : Filled). if_of_order i k (remote home k refl f)) fs ≡ 0 =
          ap (λ b. sum_by (λ (f : Filled). cond b (remote home k refl f) 0) fs)
          (not_turned order_total exact_order i k h.0) ∙ zeros fs in (
            λ t. let z : remotes_of r i ≡ 0 = old.0 t in
                omega arith,
            λ t. old.1 (let z : remotes_of r i ≡ 0 = omega arith in z),
          )

  pub made_movements : Movements initial made
  made_movements = record {
    stock_ytd = figure_now (λ x. x.ytd) quantity_of (λ i x f n s e. ap (λ v. x.ytd + v) (sym e)) m.stock_ytd;
    stock_orders = figure_now (λ x. x.order_count) one_line (λ i x f n s e. refl) m.stock_orders;
    stock_remote = figure_now (λ x. x.remote_count) one_remote remote_counts m.stock_remote;
    payment_count = m.payment_count;
    delivery_count = λ c x e. m.delivery_count c x e ∙ sym (deliveries_same c);
    all_local = from_counted made local_now;
    stock_quantity = quantity_now;
  }

  pub made_first : IsNumberedFirst initial made
  made_first = record {
    next_orders = each_row district_total exact_district (λ h x. initial < x.next_order) r.districts q.district
        (with_next d) (let a = above in omega arith) first.next_orders;
    waiting = each_row new_order_total exact_new_order (λ i x. delivered_of initial < i.order) r.new_orders j
        new_order_row (let a = above in omega arith) first.waiting;
  }

pub new_order_moves : (initial : ℕ) (q : NewOrderRequest) (r after : Rows) (y : Reply) → Meets r → Condition_2 r
    → IsNewOrder q → IsNumberedFirst initial r → Movements initial r → new_order_effect q r ≡ Some (after, y)
    → IsNumberedFirst initial after × Movements initial after
new_order_moves initial q r after y meets second valid first m e =
    let P : Type 0 = IsNumberedFirst initial after × Movements initial after in
    there P (get r.warehouses (warehouse_of_district q.district)) _ _ e (λ w _ e.
    there P (get r.districts q.district) _ _ e (λ d d_at e.
    there_in_range P next_out (with_next d) _ _ e (λ _ e.
    there P (get r.customers (customer_in q.district q.customer)) _ _ e (λ u _ e.
    there P (all_filled q r [] q.lines) _ _ e (λ fs fs_are e.
    let rows : Rows = made initial q r first m meets second valid d d_at fs fs_are in
    let same : rows ≡ after = made_by rows after _ y e in
    subst (λ (v : Rows). IsNumberedFirst initial v × Movements initial v) same (
      made_first initial q r first m meets second valid d d_at fs fs_are,
      made_movements initial q r first m meets second valid d d_at fs fs_are,
    ))))))
