-- The seven movements hold of the population by formula.
use Rattle.std.proofs.Common.{◌≡◌, ℕ, ◌+◌, ◌*◌, ◌%◌, ◌≤◌, ◌<◌, refl, sym, ◌∙◌, ap, subst, Bool, true, false, cond}
use Rattle.std.proofs.Common.{Some, None, arith, zero-add}
use Rattle.std.specs.Prelude.{◌⊎◌, ◌&&◌, ◌==◌, not, is_some, nat_lt}
use Rattle.std.specs.Ordering.{eq_by_cmp}
use Rattle.std.specs.FinMap.{get}
use Rattle.std.proofs.lemmas.Bool.{and_parts, and_right, leb-true, leb-false, ltb-true, false_from_ne_true}
use Rattle.std.proofs.lemmas.Bool.{eq-eqb}
use Rattle.std.proofs.lemmas.Nat.{mod_below}
use Rattle.oe_rows.specs.Key.{order_cmp, customer_cmp}
use Rattle.oe_rows.specs.declared.scales.Scale.{Scale}
use Rattle.oe_rows.specs.declared.keys.CustomerKey.{CustomerKey}
use Rattle.oe_rows.specs.declared.keys.HistoryKey.{HistoryKey}
use Rattle.oe_rows.specs.declared.keys.OrderKey.{OrderKey}
use Rattle.oe_rows.specs.declared.keys.OrderLineKey.{OrderLineKey}
use Rattle.oe_rows.specs.declared.keys.StockKey.{StockKey}
use Rattle.oe_rows.specs.declared.districts.District.{District}
use Rattle.oe_rows.specs.declared.customers.Customer.{Customer}
use Rattle.oe_rows.specs.declared.histories.History.{History}
use Rattle.oe_rows.specs.declared.orders.Order.{Order}
use Rattle.oe_rows.specs.declared.orders.OrderLine.{OrderLine}
use Rattle.oe_rows.specs.declared.items.Stock.{Stock}
use Rattle.oe_rows.proofs.KeyFacts.{customer_total, exact_customer, history_total, exact_history, order_total}
use Rattle.oe_rows.proofs.KeyFacts.{exact_order, order_line_total, exact_order_line}
use Rattle.oe_model.specs.Keys.{order_of_line, order_of_new_order, customer_of_order}
use Rattle.oe_model.specs.Rows.{Rows}
use Rattle.oe_model.specs.FurtherConditions.{if_of_order, if_of_customer}
use Rattle.oe_model.specs.Population.{IsScale, IsPopulated, has_customer, has_order, district_of, customer_of, order_of}
use Rattle.oe_model.specs.Population.{history_key, counted_customer, stock_of, last_delivered, is_delivered}
use Rattle.oe_model.proofs.MapFacts.{is_same, is_self}
use Rattle.oe_model.proofs.SumFacts.{number_at, sum-none}
use Rattle.oe_model.proofs.CountFacts.{sum-listed}
use Rattle.oe_model.proofs.PopulationFacts.{same_there, counts_or, district_get, customer_get, stock_get, district_held}
use Rattle.oe_model.proofs.PopulationFacts.{customer_is, new_order_is, held, line_held}
use Rattle.oe_consistency.proofs.PopulationMore.{has_more, order_row, line_row, history_row, history_at}
use Rattle.oe_movements.specs.Movements.{is_ordered, order_sum, one_remote, payments_of, is_delivered_to}
use Rattle.oe_movements.specs.Movements.{Stock_quantity_at, Movements}
use Rattle.oe_movements.specs.Movements.{Payment_count, Delivery_count, IsNumberedFirst}
use Rattle.oe_movements.proofs.LocalFacts.{remotes_of, IsCounted, from_counted}
use Rattle.oe_movements.specs.Kept.{HasMovements, Population_has_movements}

-- a number that is not above another
not_above : (n m : ℕ) → m ≤ n → nat_lt n m ≡ false
not_above n m h = false_from_ne_true (nat_lt n m) (λ t. let l = ltb-true n m t in let no : ⊥ = omega arith in no)

module _ (s : Scale) (r : Rows) (sc : IsScale s) (p : IsPopulated s r) where
  stock_row : (k : StockKey) (x : Stock) → get r.stocks k ≡ Some x → stock_of k.warehouse k.item ≡ x
  stock_row k x e = same_there _ _ x (sym (stock_get s r sc p k) ∙ e)

  -- each line is of an order that the population has
  nothing_ordered : (figure : OrderLineKey → OrderLine → ℕ) (k : StockKey) → order_sum figure s.customers r k ≡ 0
  nothing_ordered figure k = sum-none order_line_total exact_order_line
      (λ l y. cond (is_ordered s.customers k l y) (figure l y) 0) r.order_lines (λ l y e.
      let line = line_held s r sc p l (line_row s r sc p l y e).0 in
      let order = district_held s r sc p (order_of_line l) line.0 in
      ap (λ b. cond b (figure l y) 0) (and_right _ _ (not_above s.customers l.order order.2)))

  quantity : (k : StockKey) (x : Stock) → get r.stocks k ≡ Some x → Stock_quantity_at x
  quantity k x e =
      let low : (13 * k.item + k.warehouse) % 91 < 91 = mod_below (13 * k.item + k.warehouse) 91 (omega arith) in
      subst Stock_quantity_at (stock_row k x e) (omega arith, omega arith)

  customer_row : (c : CustomerKey) (x : Customer) → get r.customers c ≡ Some x → (has_customer s c ≡ true)
      × (customer_of c.customer ≡ x)
  customer_row c x e = (
    held s r sc p _ x (customer_is s r sc p c) e,
    same_there _ _ x (sym (customer_get s r sc p c) ∙ e),
  )

  -- each customer has paid once
  payment_count : Payment_count r
  payment_count c x e =
      let row = customer_row c x e in
      sym (ap (λ (z : Customer). z.account.payment_count) row.1) ∙ sym (once row.0)
    where
      own : HistoryKey → History → ℕ
      own k y = if_of_customer c y.customer 1

      once : has_customer s c ≡ true → payments_of r c ≡ 1
      once there =
          sum-listed history_total exact_history own 1 (λ i. history_key s c) (λ i j l m e. omega arith) r.histories
          listed
          ∙ zero-add _
          ∙ ap (number_at own (history_key s c)) (history_at s r sc p c there) ∙ ap (λ b. cond b 1 0)
          (is_self customer_total exact_customer c)
        where
          listed : (k : HistoryKey) (y : History) → get r.histories k ≡ Some y
              → (own k y ≡ 0) ⊎ ((i : ℕ) × (i < 1) × (history_key s c ≡ k))
          listed k y f = counts_or s r sc p _ 1 _ (λ t.
              let row = history_row s r sc p k y f in
              let mine : counted_customer s k.number ≡ c = ap (λ (z : History). z.customer) row.1
              ∙ is_same customer_total exact_customer y.customer c t in
              (0, omega arith, ap (history_key s) (sym mine) ∙ row.2))

  -- what is delivered the population had delivered
  delivery_count : Delivery_count s.customers r
  delivery_count c x e =
      sym (ap (λ (z : Customer). z.account.delivery_count) (customer_row c x e).1)
      ∙ sym (sum-none order_total exact_order (λ k y. cond (is_delivered_to s.customers c k y) 1 0) r.orders (λ k y f.
      ap (λ (z : Order). cond (is_delivered_to s.customers c k z) 1 0) (sym (order_row s r sc p k y f).1)
      ∙ none k (eq_by_cmp customer_cmp (customer_of_order k (order_of s k.order)) c) (is_delivered s k.order) refl))
    where
      none : (k : OrderKey) (a b : Bool) → is_delivered s k.order ≡ b
          → ◌≡◌ {A = ℕ} (cond
          (a && is_some (cond b (Some (1 + k.order % 10)) None) && nat_lt (last_delivered s) k.order) 1 0) 0
      none k false b t = refl
      none k true false t = refl
      none k true true t = ap (λ v. cond v 1 0)
          (not_above (last_delivered s) k.order (leb-true k.order (last_delivered s) t))

  -- each line is supplied from home
  all_local : IsCounted r
  all_local k x e = (λ _. none, λ _. sym (ap (λ (z : Order). z.all_local) (order_row s r sc p k x e).1))
    where
      by_test : (l : OrderLineKey) (b : Bool) → ◌≡◌ {A = ℕ} (cond b (cond (l.warehouse == l.warehouse) 0 1) 0) 0
      by_test l true = ap (λ t. cond t 0 1) (eq-eqb l.warehouse l.warehouse refl)
      by_test l false = refl

      none : remotes_of r k ≡ 0
      none = sum-none order_line_total exact_order_line (λ l y. if_of_order k (order_of_line l) (one_remote l y))
          r.order_lines (λ l y f.
          ap (λ (z : OrderLine). if_of_order k (order_of_line l) (one_remote l z)) (sym (line_row s r sc p l y f).1)
          ∙ by_test l (eq_by_cmp order_cmp (order_of_line l) k))

  movements : Movements s.customers r
  movements = record {
    stock_ytd = λ k x e. sym (ap (λ (z : Stock). z.ytd) (stock_row k x e)) ∙ sym (nothing_ordered _ k);
    stock_orders = λ k x e. sym (ap (λ (z : Stock). z.order_count) (stock_row k x e)) ∙ sym (nothing_ordered _ k);
    stock_remote = λ k x e. sym (ap (λ (z : Stock). z.remote_count) (stock_row k x e)) ∙ sym (nothing_ordered _ k);
    payment_count = payment_count;
    delivery_count = delivery_count;
    all_local = from_counted r all_local;
    stock_quantity = quantity;
  }

  first : IsNumberedFirst s.customers r
  first = record {
    next_orders = λ h x e.
        let row : district_of s h.district ≡ x = same_there _ _ x (sym (district_get s r sc p h) ∙ e) in
        let next : s.customers + 1 ≡ x.next_order = ap (λ (z : District). z.next_order) row in
        omega arith;
    waiting = λ k x e.
        let there = held s r sc p _ x (new_order_is s r sc p k) e in
        let waits = (and_parts (has_order s (order_of_new_order k)) (not (is_delivered s k.order)) there).1 in
        leb-false k.order (last_delivered s) (Rattle.std.proofs.lemmas.Bool.not-true (is_delivered s k.order) waits);
  }

  pub has_movements : HasMovements s.customers r
  has_movements = record { more = has_more s r sc p; first = first; movements = movements }

pub population_has_movements : Population_has_movements
population_has_movements s r sc p = has_movements s r sc p
