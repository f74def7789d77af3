-- The seven movements are checked.
use Rattle.std.proofs.Common.{◌≡◌, ℕ, ◌-◌, ◌*◌, ◌/◌, ◌≤◌, refl, sym, ◌∙◌, ap, subst, Bool, true}
use Rattle.std.proofs.Common.{false, cond, Option, Some, None, arith, ℤ, pos, nat_lt, nat_eq}
use Rattle.std.specs.Prelude.{◌↔◌, ◌&&◌, is_some, unwrap_or, option_map}
use Rattle.std.specs.Int.{int_max, int_min}
use Rattle.std.specs.Ordering.{eq_by_cmp}
use Rattle.std.specs.FinMap.{get}
use Rattle.std.proofs.lemmas.Bool.{ltb-true, ltb-false}
use Rattle.std.proofs.lemmas.Int.{ints}
use Rattle.oe_rows.specs.Key.{customer_cmp}
use Rattle.oe_rows.specs.declared.keys.OrderKey.{OrderKey}
use Rattle.oe_rows.specs.declared.keys.OrderLineKey.{OrderLineKey}
use Rattle.oe_rows.specs.declared.keys.StockKey.{StockKey}
use Rattle.oe_rows.specs.declared.orders.Order.{Order}
use Rattle.oe_rows.specs.declared.orders.OrderLine.{OrderLine}
use Rattle.oe_rows.specs.declared.items.Stock.{Stock}
use Rattle.oe_rows.proofs.KeyFacts.{customer_total, exact_customer, history_total, order_total, exact_order}
use Rattle.oe_rows.proofs.KeyFacts.{order_line_total, stock_total, exact_stock}
use Rattle.oe_model.specs.Keys.{order_of_line, customer_of_order, supply_of_line}
use Rattle.oe_model.specs.Rows.{Rows}
use Rattle.oe_model.specs.FurtherConditions.{if_of_order, if_of_customer}
use Rattle.oe_movements.specs.Movements as movements
use Rattle.oe_movements.specs.Movements.{delivered_of, order_sum, is_ordered, quantity_of, one_line, one_remote}
use Rattle.oe_movements.specs.Movements.{payments_of, deliveries_to, is_delivered_to, All_local_at}
use Rattle.oe_movements.specs.Movements.{Stock_quantity_at}
use Rattle.oe_movements.specs.Movements.{Payment_count_at, Delivery_count_at}
use Rattle.oe_movements.proofs.LocalFacts.{remotes_of, home_tied}
use Rattle.oe_facts.specs.declared.facts.StockFact.{StockFact}
use Rattle.oe_facts.specs.declared.facts.OrderLineFact.{OrderLineFact}
use Rattle.oe_ledgers.specs.ColumnLaws.{int_max_associative, int_max_commutative}
use Rattle.oe_ledgers.specs.Keys as ids
use Rattle.oe_ledgers.specs.Keys.{same_customer, same_order, same_stock, stock_of_line}
use Rattle.oe_ledgers.specs.Keeping as ledgers
use Rattle.oe_ledgers.specs.Figures.{greatest_of, sum_of, s_quantity}
use Rattle.oe_ledgers.specs.Figures.{c_payments, payments_of_customer, c_deliveries}
use Rattle.oe_ledgers.specs.Figures.{deliveries_to_customer, is_remote, remote_lines}
use Rattle.oe_checks.specs.declared.figures.Apart.{Apart}
use Rattle.oe_checks.specs.Comparing.{any_against, outside}
use Rattle.oe_checks.specs.Movements as moved
use Rattle.oe_fact_laws.specs.Facts.{Facts, AreFactsOf, customer_fact, history_fact, order_fact, line_fact, stock_fact}
use Rattle.oe_fact_laws.specs.Facts.{customer_id, order_id, stock_id}
use Rattle.oe_fact_laws.specs.FactLaws.{FindsNothing}
use Rattle.oe_fact_laws.proofs.FigureFacts.{of_row, sum_of_group}
use Rattle.oe_fact_laws.proofs.TiedFacts.{customer_tie, order_tie, stock_tie, by_rows, against_sums, counts_for, itself}
use Rattle.oe_fact_laws.proofs.TiedFacts.{equal_tied, both_ways, int_min_associative, int_min_commutative}

-- a number that counts where two tests pass
nested : (a b c : Bool) (n : ℕ) → a ≡ b → cond a (pos (cond c n 0)) (pos 0) ≡ pos (cond (b && c) n 0)
nested a true c n e = ap (λ t. cond t (pos (cond c n 0)) (pos 0)) e
nested a false c n e = ap (λ t. cond t (pos (cond c n 0)) (pos 0)) e

grouped : (a b c : Bool) → (a && (b && c)) ≡ ((a && b) && c)
grouped true b c = refl
grouped false b c = refl

-- a figure below 10 or above 100
outside_tied : (q : ℕ) → (outside (Some (pos q)) ≡ None) ↔ ((10 ≤ q) × (q ≤ 100))
outside_tied q = by_test (nat_lt q 10) (nat_lt 100 q) refl refl
  where
    low : Apart
    low = record { first = pos q; second = pos 10 }

    high : Apart
    high = record { first = pos q; second = pos 100 }

    by_test : (a b : Bool) → nat_lt q 10 ≡ a → nat_lt 100 q ≡ b
        → (cond a (Some low) (cond b (Some high) None) ≡ None) ↔ ((10 ≤ q) × (q ≤ 100))
    by_test true b s t = (
      λ e. let no : ⊥ = cc in absurd no,
      λ h. let l = ltb-true q 10 s in let g = h.0 in
          absurd (let no : ⊥ = omega arith in no),
    )
    by_test false true s t = (
      λ e. let no : ⊥ = cc in absurd no,
      λ h. let l = ltb-true 100 q t in let g = h.1 in
          absurd (let no : ⊥ = omega arith in no),
    )
    by_test false false s t = (λ e. (ltb-false q 10 s, ltb-false 100 q t), λ h. refl)

-- a flag against whether there are any
any_tied : (b : Bool) (s : Option ℤ) (n : ℕ) → unwrap_or s (pos 0) ≡ pos n
    → (any_against (Some (pos (cond b 0 1))) s ≡ None) ↔ ((b ≡ true) ↔ (n ≡ 0))
any_tied b None n e =
    both_ways (equal_tied (pos (cond b 0 1)) (pos 0)) (by_flag b)
  where
    none : n ≡ 0
    none = omega (arith, ints)

    by_flag : (b : Bool) → (pos (cond b 0 1) ≡ pos 0) ↔ ((b ≡ true) ↔ (n ≡ 0))
    by_flag true = (λ _. (λ _. none, λ _. refl), λ _. refl)
    by_flag false = (
      λ h. let no : ⊥ = omega (arith, ints) in absurd no,
      λ h. let g : false ≡ true = h.1 none in
          let no : ⊥ = cc in absurd no,
    )
any_tied b (Some z) n e =
    subst (λ (y : ℤ). (any_against (Some (pos (cond b 0 1))) (Some y) ≡ None) ↔ ((b ≡ true) ↔ (n ≡ 0))) (sym e)
    (both_ways (equal_tied (pos (cond b 0 1)) (cond (nat_lt 0 n) (pos 1) (pos 0))) (by_flag b (nat_lt 0 n) refl))
  where
    some : nat_lt 0 n ≡ true → n ≡ 0 → ⊥
    some t h = let l = ltb-true 0 n t in omega arith

    none : nat_lt 0 n ≡ false → n ≡ 0
    none t = let l = ltb-false 0 n t in omega arith

    by_flag : (b t : Bool) → nat_lt 0 n ≡ t
        → (pos (cond b 0 1) ≡ cond t (pos 1) (pos 0)) ↔ ((b ≡ true) ↔ (n ≡ 0))
    by_flag true true t = (λ h. let no : ⊥ = omega (arith, ints) in absurd no, λ h. absurd (some t (h.0 refl)))
    by_flag true false t = (λ _. (λ _. none t, λ _. refl), λ _. refl)
    by_flag false true t = (λ _. (λ h. let no : ⊥ = cc in absurd no, λ h. absurd (some t h)), λ _. refl)
    by_flag false false t = (
      λ h. let no : ⊥ = omega (arith, ints) in absurd no,
      λ h.
          let g : false ≡ true = h.1 (none t) in let no : ⊥ = cc in absurd no,
    )

module _ (f : Facts) (r : Rows) (are : AreFactsOf f r) where
  -- STOCK
  stock_is : (column : StockFact → ℕ) (k : StockKey)
      → greatest_of same_stock (λ z. z.key) (λ z. pos (column z)) f.stocks (stock_id k) ≡ option_map
      (λ x. pos (column (stock_fact k x))) (get r.stocks k)
  stock_is column k =
      of_row stock_total exact_stock stock_fact r.stocks f.stocks are.stocks same_stock (λ z. z.key) int_max
      int_max_associative int_max_commutative (λ z. pos (column z)) stock_id (λ a x b. stock_tie a b) k

  ordered_is : (initial : ℕ) (column : OrderLineFact → ℕ) (figure : OrderLineKey → OrderLine → ℕ)
      → ((l : OrderLineKey) (y : OrderLine) → column (line_fact l y) ≡ cond (nat_lt initial l.order) (figure l y) 0)
      → (k : StockKey)
      → unwrap_or (sum_of same_stock (λ z. stock_of_line z) (λ z. pos (column z)) f.order_lines (stock_id k)) (pos 0)
      ≡ pos (order_sum figure initial r k)
  ordered_is initial column figure is k =
      sum_of_group order_line_total line_fact r.order_lines f.order_lines are.order_lines same_stock
      (λ z. stock_of_line z) (λ z. pos (column z)) (stock_id k)
      (λ l y. cond (is_ordered initial k l y) (figure l y) 0)
      (λ l y e.
      ap (λ n. cond (same_stock (stock_id (supply_of_line y)) (stock_id k)) (pos n) (pos 0)) (is l y)
      ∙ nested _ _ (nat_lt initial l.order) (figure l y) (stock_tie (supply_of_line y) k))

  -- a figure of a STOCK row against a sum of its lines
  stock_tied : (initial : ℕ) (column : StockFact → ℕ) (sum : OrderLineFact → ℕ)
      (figure : OrderLineKey → OrderLine → ℕ)
      → ((l : OrderLineKey) (y : OrderLine) → sum (line_fact l y) ≡ cond (nat_lt initial l.order) (figure l y) 0)
      → FindsNothing (λ j. Rattle.oe_checks.specs.Comparing.against
      (greatest_of same_stock (λ z. z.key) (λ z. pos (column z)) f.stocks j)
      (sum_of same_stock (λ z. stock_of_line z) (λ z. pos (sum z)) f.order_lines j))
      ↔ ((k : StockKey) (x : Stock) → get r.stocks k ≡ Some x → column (stock_fact k x) ≡ order_sum figure initial r k)
  stock_tied initial column sum figure is =
      against_sums r.stocks (λ k x. column (stock_fact k x) ≡ order_sum figure initial r k) stock_id
      (λ j. record { warehouse = j.warehouse; item = j.item }) (λ j. refl)
      (greatest_of same_stock (λ z. z.key) (λ z. pos (column z)) f.stocks)
      (sum_of same_stock (λ z. stock_of_line z) (λ z. pos (sum z)) f.order_lines) (λ k x. column (stock_fact k x))
      (order_sum figure initial r) (stock_is column) (ordered_is initial sum figure is) (λ k x e. itself)

  pub stock_ytd : (initial : ℕ) → FindsNothing (moved.stock_ytd initial f.stocks f.order_lines)
      ↔ movements.Stock_ytd initial r
  stock_ytd initial = stock_tied initial (λ z. z.ytd) (λ z. cond (nat_lt initial z.order.order) z.quantity 0)
      quantity_of (λ l y. refl)

  pub stock_orders : (initial : ℕ) → FindsNothing (moved.stock_orders initial f.stocks f.order_lines)
      ↔ movements.Stock_orders initial r
  stock_orders initial = stock_tied initial (λ z. z.orders) (λ z. cond (nat_lt initial z.order.order) 1 0)
      one_line (λ l y. refl)

  pub stock_remote : (initial : ℕ) → FindsNothing (moved.stock_remote initial f.stocks f.order_lines)
      ↔ movements.Stock_remote initial r
  stock_remote initial = stock_tied initial (λ z. z.remotes)
      (λ z. cond (nat_lt initial z.order.order) (cond (nat_eq z.supply z.order.warehouse) 0 1) 0) one_remote
      (λ l y. refl)

  pub stock_quantity : FindsNothing (moved.stock_quantity f.stocks) ↔ movements.Stock_quantity r
  stock_quantity =
      by_rows (moved.stock_quantity f.stocks) r.stocks (λ k x. Stock_quantity_at x) stock_id
      (λ j. record { warehouse = j.warehouse; item = j.item }) (λ j. refl)
      (λ k e. ap outside (row_is k ∙ ap (option_map (λ (x : Stock). pos x.quantity)) e))
      (λ k x e. subst (λ v. (outside v ≡ None) ↔ ((10 ≤ x.quantity) × (x.quantity ≤ 100)))
      (sym (row_is k ∙ ap (option_map (λ (x : Stock). pos x.quantity)) e)) (outside_tied x.quantity))
    where
      row_is : (k : StockKey) → s_quantity f.stocks (stock_id k) ≡ option_map (λ x. pos x.quantity) (get r.stocks k)
      row_is k =
          of_row stock_total exact_stock stock_fact r.stocks f.stocks are.stocks same_stock (λ z. z.key) int_max
          int_max_associative int_max_commutative (λ z. z.quantity) stock_id (λ a x b. stock_tie a b) k

  -- CUSTOMER
  pub payment_count : FindsNothing (moved.payment_count f.customers f.histories) ↔ movements.Payment_count r
  payment_count =
      against_sums r.customers (Payment_count_at r) customer_id
      (λ j. record { warehouse = j.warehouse; district = j.district; customer = j.customer }) (λ j. refl)
      (c_payments f.customers) (payments_of_customer f.histories) (λ c x. x.account.payment_count) (payments_of r)
      (λ c. of_row customer_total exact_customer customer_fact r.customers f.customers are.customers same_customer
      (λ z. z.key) int_max int_max_associative int_max_commutative (λ z. pos z.payments) customer_id
      (λ a x b. customer_tie a b) c)
      (λ c. sum_of_group history_total history_fact r.histories f.histories are.histories same_customer
      (λ z. z.customer) (λ z. pos 1) (customer_id c) (λ k y. if_of_customer c y.customer 1)
      (λ k y e. counts_for _ _ 1 (customer_tie y.customer c))) (λ c x e. itself)

  pub delivery_count : (initial : ℕ) → FindsNothing (moved.delivery_count initial f.customers f.orders)
      ↔ movements.Delivery_count initial r
  delivery_count initial =
      against_sums r.customers (Delivery_count_at initial r) customer_id
      (λ j. record { warehouse = j.warehouse; district = j.district; customer = j.customer }) (λ j. refl)
      (c_deliveries f.customers) (deliveries_to_customer initial f.orders) (λ c x. x.account.delivery_count)
      (deliveries_to initial r)
      (λ c. of_row customer_total exact_customer customer_fact r.customers f.customers are.customers same_customer
      (λ z. z.key) int_max int_max_associative int_max_commutative (λ z. pos z.deliveries) customer_id
      (λ a x b. customer_tie a b) c)
      (λ c. sum_of_group order_total order_fact r.orders f.orders are.orders same_customer
      (λ z. ids.customer_of_order z)
      (λ z. pos (cond (z.is_delivered && nat_lt (ledgers.delivered_of initial) z.key.order) 1 0)) (customer_id c)
      (λ k x. cond (is_delivered_to initial c k x) 1 0)
      (λ k x e.
      ap (λ d. cond (same_customer (customer_id (customer_of_order k x)) (customer_id c))
      (pos (cond (is_some x.carrier && nat_lt d k.order) 1 0)) (pos 0)) last
      ∙ nested _ _ (is_some x.carrier && nat_lt (delivered_of initial) k.order) 1
      (customer_tie (customer_of_order k x) c)
      ∙ ap (λ b. pos (cond b 1 0))
      (grouped (eq_by_cmp customer_cmp (customer_of_order k x) c) (is_some x.carrier)
      (nat_lt (delivered_of initial) k.order)))) (λ c x e. itself)
    where
      last : ledgers.delivered_of initial ≡ delivered_of initial
      last = ap (λ n. initial - n / 10) (let e : initial * 3 ≡ 3 * initial = omega arith in e)

  -- ORDER
  remotes_are : (k : OrderKey) → unwrap_or (remote_lines f.order_lines (order_id k)) (pos 0) ≡ pos (remotes_of r k)
  remotes_are k =
      sum_of_group order_line_total line_fact r.order_lines f.order_lines are.order_lines same_order (λ z. z.order)
      (λ z. pos (cond (nat_eq z.supply z.order.warehouse) 0 1)) (order_id k)
      (λ l y. if_of_order k (order_of_line l) (one_remote l y))
      (λ l y e. counts_for _ _ (one_remote l y) (order_tie (order_of_line l) k))

  pub all_local : FindsNothing (moved.all_local f.orders f.order_lines) ↔ movements.All_local r
  all_local =
      by_rows (moved.all_local f.orders f.order_lines) r.orders (All_local_at r) order_id
      (λ j. record { warehouse = j.warehouse; district = j.district; order = j.order }) (λ j. refl)
      (λ k e. ap (λ v. any_against v (remote_lines f.order_lines (order_id k)))
      (row_is k ∙ ap (option_map (λ (x : Order). pos (cond x.all_local 0 1))) e))
      (λ k x e. subst (λ v. (any_against v (remote_lines f.order_lines (order_id k)) ≡ None) ↔ All_local_at r k x)
      (sym (row_is k ∙ ap (option_map (λ (x : Order). pos (cond x.all_local 0 1))) e))
      (both_ways
      (any_tied x.all_local (remote_lines f.order_lines (order_id k)) (remotes_of r k) (remotes_are k)) (under k x)))
    where
      under : (k : OrderKey) (x : Order) → ((x.all_local ≡ true) ↔ (remotes_of r k ≡ 0)) ↔ All_local_at r k x
      under k x = (
        λ h. both_ways h (home_tied r k),
        λ h. both_ways h ((home_tied r k).1, (home_tied r k).0),
      )

      row_is : (k : OrderKey)
          → is_remote f.orders (order_id k) ≡ option_map (λ x. pos (cond x.all_local 0 1)) (get r.orders k)
      row_is k =
          of_row order_total exact_order order_fact r.orders f.orders are.orders same_order (λ z. z.key) int_min
          int_min_associative int_min_commutative (λ z. pos (cond z.is_all_local 0 1)) order_id
          (λ a x b. order_tie a b) k
