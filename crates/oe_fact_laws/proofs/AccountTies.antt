-- Conditions 10 and 12 are checked.
use Rattle.std.proofs.Common.{◌≡◌, ℕ, refl, ◌∙◌, ap, Bool, true, false, cond, max, Option, Some, None, arith, ℤ}
use Rattle.std.proofs.Common.{pos, ◌+ℤ◌, ◌-ℤ◌}
use Rattle.std.specs.Prelude.{◌↔◌, ◌&&◌, is_some, unwrap_or, option_map}
use Rattle.std.specs.Int.{int_max}
use Rattle.std.specs.Ordering.{eq_by_cmp}
use Rattle.std.specs.FinMap.{get}
use Rattle.std.proofs.lemmas.Int.{ints}
use Rattle.oe_rows.specs.Key.{customer_cmp}
use Rattle.oe_rows.specs.declared.keys.CustomerKey.{CustomerKey}
use Rattle.oe_rows.specs.declared.keys.OrderKey.{OrderKey}
use Rattle.oe_rows.specs.declared.keys.OrderLineKey.{OrderLineKey}
use Rattle.oe_rows.specs.declared.customers.Customer.{Customer}
use Rattle.oe_rows.specs.declared.orders.Order.{Order}
use Rattle.oe_rows.specs.declared.orders.OrderLine.{OrderLine}
use Rattle.oe_rows.proofs.KeyFacts.{customer_total, exact_customer, history_total, order_total, exact_order}
use Rattle.oe_rows.proofs.KeyFacts.{order_line_total}
use Rattle.oe_model.specs.Keys.{order_of_line, customer_of_order}
use Rattle.oe_model.specs.Rows.{Rows}
use Rattle.oe_model.specs.FurtherConditions as further
use Rattle.oe_model.specs.FurtherConditions.{if_of_customer, amount_for, delivered_for, paid_by}
use Rattle.oe_ledgers.specs.ColumnLaws.{int_max_associative, int_max_commutative, max_associative, max_commutative}
use Rattle.oe_ledgers.specs.Keys.{same_customer, same_order}
use Rattle.oe_ledgers.specs.Figures.{c_balance, c_ytd_payment, paid_by_customer}
use Rattle.oe_checks.specs.Accounts as accounts
use Rattle.oe_checks.specs.Accounts.{less, figure_sum}
use Rattle.oe_checks.specs.Deliveries.{customer_at, customer_of, same_known, delivered_amount, delivered_to}
use Rattle.oe_fact_laws.specs.Facts.{Facts, AreFactsOf, customer_fact, history_fact, order_fact, line_fact, customer_id}
use Rattle.oe_fact_laws.specs.Facts.{order_id}
use Rattle.oe_fact_laws.specs.FactLaws.{FindsNothing}
use Rattle.oe_fact_laws.proofs.FigureFacts.{of_row, sum_of_group}
use Rattle.oe_fact_laws.proofs.TiedFacts.{customer_tie, order_tie, by_rows, against_tied, against_none, counts_for}

module _ (f : Facts) (r : Rows) (are : AreFactsOf f r) where
  -- C_BALANCE and C_YTD_PAYMENT
  balance_is : (c : CustomerKey) → c_balance f.customers (customer_id c) ≡ option_map (λ x. x.account.balance)
      (get r.customers c)
  balance_is c =
      of_row customer_total exact_customer customer_fact r.customers f.customers are.customers same_customer
      (λ z. z.key) int_max int_max_associative int_max_commutative (λ z. z.balance) customer_id
      (λ a x b. customer_tie a b) c

  ytd_is : (c : CustomerKey) → c_ytd_payment f.customers (customer_id c) ≡ option_map
      (λ x. pos x.account.ytd_payment) (get r.customers c)
  ytd_is c =
      of_row customer_total exact_customer customer_fact r.customers f.customers are.customers same_customer
      (λ z. z.key) int_max int_max_associative int_max_commutative (λ z. z.ytd_payment) customer_id
      (λ a x b. customer_tie a b) c

  paid_is : (c : CustomerKey) → unwrap_or (paid_by_customer f.histories (customer_id c)) (pos 0) ≡ pos (paid_by r c)
  paid_is c =
      sum_of_group history_total history_fact r.histories f.histories are.histories same_customer (λ z. z.customer)
      (λ z. z.amount) (customer_id c) (λ k y. if_of_customer c y.customer y.amount)
      (λ k y e. counts_for _ _ y.amount (customer_tie y.customer c))

  -- the customer of an order
  owner_is : (k : OrderKey) → customer_of f.orders (order_id k) ≡ option_map (λ x. customer_id (customer_of_order k x))
      (get r.orders k)
  owner_is k =
      ap (option_map (customer_at (order_id k)))
      (of_row order_total exact_order order_fact r.orders f.orders are.orders same_order (λ z. z.key) max
      max_associative max_commutative (λ z. z.customer) order_id (λ a x b. order_tie a b) k)
      ∙ together (get r.orders k)
    where
      together : (v : Option Order)
          → option_map (customer_at (order_id k)) (option_map (λ (x : Order). x.customer) v) ≡ option_map
          (λ x. customer_id (customer_of_order k x)) v
      together None = refl
      together (Some x) = refl

  -- what a line brings to a customer
  line_counts : (c : CustomerKey) (l : OrderLineKey) (y : OrderLine)
      → cond (same_known (customer_of f.orders (order_id (order_of_line l))) (Some (customer_id c)))
      (cond (is_some y.delivery) (pos y.amount) (pos 0)) (pos 0)
      ≡ pos (amount_for c (order_of_line l) (get r.orders (order_of_line l)) y)
  line_counts c l y =
      ap
      (λ v. cond (same_known v (Some (customer_id c))) (cond (is_some y.delivery) (pos y.amount) (pos 0)) (pos 0))
      (owner_is (order_of_line l))
      ∙ by_order (get r.orders (order_of_line l))
    where
      nested : (a b : Bool) → cond a (cond b (pos y.amount) (pos 0)) (pos 0) ≡ pos (cond (a && b) y.amount 0)
      nested true true = refl
      nested true false = refl
      nested false b = refl

      by_order : (v : Option Order)
          → cond (same_known (option_map (λ x. customer_id (customer_of_order (order_of_line l) x)) v)
          (Some (customer_id c))) (cond (is_some y.delivery) (pos y.amount) (pos 0)) (pos 0)
          ≡ pos (amount_for c (order_of_line l) v y)
      by_order None = refl
      by_order (Some x) =
          ap (λ b. cond b (cond (is_some y.delivery) (pos y.amount) (pos 0)) (pos 0))
          (customer_tie (customer_of_order (order_of_line l) x) c)
          ∙ nested (eq_by_cmp customer_cmp (customer_of_order (order_of_line l) x) c) (is_some y.delivery)

  delivered_is : (c : CustomerKey)
      → unwrap_or (delivered_to f.orders f.order_lines (customer_id c)) (pos 0) ≡ pos (delivered_for r c)
  delivered_is c =
      sum_of_group order_line_total line_fact r.order_lines f.order_lines are.order_lines same_known
      (λ z. customer_of f.orders z.order) delivered_amount (Some (customer_id c))
      (λ l y. amount_for c (order_of_line l) (get r.orders (order_of_line l)) y) (λ l y e. line_counts c l y)

  less_is : (a b : Option ℤ) (m n : ℕ) → unwrap_or a (pos 0) ≡ pos m → unwrap_or b (pos 0) ≡ pos n
      → unwrap_or (less a b) (pos 0) ≡ pos m -ℤ pos n
  less_is None None m n e g = omega (arith, ints)
  less_is (Some a) None m n e g = omega (arith, ints)
  less_is None (Some b) m n e g = omega (arith, ints)
  less_is (Some a) (Some b) m n e g = (λ i. e i -ℤ g i)

  pub condition_10 : FindsNothing (accounts.condition_10 f.customers f.orders f.order_lines f.histories)
      ↔ further.Condition_10 r
  condition_10 =
      by_rows (accounts.condition_10 f.customers f.orders f.order_lines f.histories) r.customers
      (further.Condition_10_at r) customer_id
      (λ j. record { warehouse = j.warehouse; district = j.district; customer = j.customer }) (λ j. refl)
      (λ c e. against_none (c_balance f.customers (customer_id c)) (sum c)
      (balance_is c ∙ ap (option_map (λ (x : Customer). x.account.balance)) e))
      (λ c x e. against_tied (c_balance f.customers (customer_id c)) (sum c) x.account.balance
      (pos (delivered_for r c) -ℤ pos (paid_by r c))
      (balance_is c ∙ ap (option_map (λ (x : Customer). x.account.balance)) e)
      (less_is (delivered_to f.orders f.order_lines (customer_id c)) (paid_by_customer f.histories (customer_id c))
      (delivered_for r c) (paid_by r c) (delivered_is c) (paid_is c)))
    where
      sum : CustomerKey → Option ℤ
      sum c = less (delivered_to f.orders f.order_lines (customer_id c))
          (paid_by_customer f.histories (customer_id c))

  added_is : (c : CustomerKey) → figure_sum (c_balance f.customers (customer_id c))
      (c_ytd_payment f.customers (customer_id c))
      ≡ option_map (λ x. x.account.balance +ℤ pos x.account.ytd_payment) (get r.customers c)
  added_is c = (λ i. figure_sum (balance_is c i) (ytd_is c i)) ∙ together (get r.customers c)
    where
      together : (v : Option Customer)
          → figure_sum (option_map (λ (x : Customer). x.account.balance) v)
          (option_map (λ (x : Customer). pos x.account.ytd_payment) v)
          ≡ option_map (λ (x : Customer). x.account.balance +ℤ pos x.account.ytd_payment) v
      together None = refl
      together (Some x) = refl

  pub condition_12 : FindsNothing (accounts.condition_12 f.customers f.orders f.order_lines) ↔ further.Condition_12 r
  condition_12 =
      by_rows (accounts.condition_12 f.customers f.orders f.order_lines) r.customers (further.Condition_12_at r)
      customer_id (λ j. record { warehouse = j.warehouse; district = j.district; customer = j.customer })
      (λ j. refl)
      (λ c e. against_none (both c) (delivered_to f.orders f.order_lines (customer_id c))
      (added_is c ∙ ap (option_map (λ (x : Customer). x.account.balance +ℤ pos x.account.ytd_payment)) e))
      (λ c x e. against_tied (both c) (delivered_to f.orders f.order_lines (customer_id c))
      (x.account.balance +ℤ pos x.account.ytd_payment) (pos (delivered_for r c))
      (added_is c ∙ ap (option_map (λ (x : Customer). x.account.balance +ℤ pos x.account.ytd_payment)) e)
      (delivered_is c))
    where
      both : CustomerKey → Option ℤ
      both c = figure_sum (c_balance f.customers (customer_id c)) (c_ytd_payment f.customers (customer_id c))
