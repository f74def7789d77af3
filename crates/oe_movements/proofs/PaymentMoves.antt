-- Payment and a rename keep the seven movements.
use Rattle.std.proofs.Common.{◌≡◌, ℕ, ◌+◌, ◌∙◌, ap, subst, true, false, cond, Some, None, inl, inr, arith}
use Rattle.std.specs.Prelude.{◌⊎◌, ◌<◌}
use Rattle.std.specs.Ordering.{eq_by_cmp}
use Rattle.std.specs.FinMap.{get, insert}
use Rattle.oe_rows.specs.Key.{customer_cmp}
use Rattle.oe_rows.specs.declared.keys.CustomerKey.{CustomerKey}
use Rattle.oe_rows.specs.declared.keys.HistoryKey.{HistoryKey}
use Rattle.oe_rows.specs.declared.warehouses.Warehouse.{Warehouse}
use Rattle.oe_rows.specs.declared.districts.District.{District}
use Rattle.oe_rows.specs.declared.customers.Customer.{Customer}
use Rattle.oe_rows.specs.declared.histories.History.{History}
use Rattle.oe_requests.specs.declared.requests.PaymentRequest.{PaymentRequest}
use Rattle.oe_requests.specs.declared.requests.RenameRequest.{RenameRequest}
use Rattle.oe_requests.specs.declared.replies.Reply.{Reply}
use Rattle.oe_rows.proofs.KeyFacts.{district_total, exact_district, customer_total, exact_customer, history_total}
use Rattle.oe_rows.proofs.KeyFacts.{exact_history}
use Rattle.oe_model.specs.Keys.{warehouse_of_district, customer_in}
use Rattle.oe_model.specs.Rows.{Rows}
use Rattle.oe_model.specs.Choice.{customer_meant}
use Rattle.oe_model.specs.Payment.{payment_effect, paid_warehouse, paid_district, paid_customer, paid_warehouse_out}
use Rattle.oe_model.specs.Payment.{paid_district_out, paid_customer_out, history_data, history_row, history_key}
use Rattle.oe_model.specs.Rename.{with_new_name, rename_effect}
use Rattle.oe_model.specs.FurtherConditions.{if_of_customer}
use Rattle.oe_model.proofs.MapFacts.{is_self}
use Rattle.oe_model.proofs.SumFacts.{number_at, sum-insert}
use Rattle.oe_model.proofs.EffectFacts.{made_by, there, there_in_range}
use Rattle.oe_model.proofs.PresenceFacts.{not_turned, own_or_old, each_row}
use Rattle.oe_movements.specs.Movements.{payments_of, Payment_count, Payment_count_at, Delivery_count}
use Rattle.oe_movements.specs.Movements.{Delivery_count_at, Movements, IsNumberedFirst}

module _ (initial t k : ℕ) (q : PaymentRequest) (r : Rows) (first : IsNumberedFirst initial r)
    (m : Movements initial r) (new : get r.histories (history_key t k) ≡ None)
    (w : Warehouse) (d : District) (d_at : get r.districts q.district ≡ Some d)
    (c : ℕ) (u : Customer) (u_at : get r.customers (customer_in q.customer_district c) ≡ Some u) where
  abbrev payer : CustomerKey
  payer = customer_in q.customer_district c

  abbrev own_key : HistoryKey
  own_key = history_key t k

  abbrev row : History
  row = history_row q c (history_data w.name d.name)

  abbrev pub paid : Rows
  paid = record r {
    warehouses = insert r.warehouses (warehouse_of_district q.district) (paid_warehouse q w);
    districts = insert r.districts q.district (paid_district q d);
    customers = insert r.customers payer (paid_customer c q u);
    histories = insert r.histories (history_key t k) row;
  }

  -- the customer that pays has one more row
  payments_now : (j : CustomerKey) → payments_of paid j ≡ payments_of r j + if_of_customer j payer 1
  payments_now j =
      let of : HistoryKey → History → ℕ = λ i y. if_of_customer j y.customer 1 in
      let sum : payments_of paid j + number_at of own_key (get r.histories own_key) ≡ payments_of r j
      + if_of_customer j payer 1 = sum-insert history_total exact_history of r.histories own_key row in
      let none : number_at of own_key (get r.histories own_key) ≡ 0 = ap (number_at of own_key) new in
      omega arith

  payment_now : Payment_count paid
  payment_now j x e = go (own_or_old customer_total exact_customer r.customers payer (paid_customer c q u) j x e)
    where
      go : ((j ≡ payer) × (paid_customer c q u ≡ x))
          ⊎ ((eq_by_cmp customer_cmp j payer ≡ false) × (get r.customers j ≡ Some x)) → Payment_count_at paid j x
      go (inl s) =
          let before : u.account.payment_count ≡ payments_of r j =
          m.payment_count j u (ap (get r.customers) s.0 ∙ u_at) in
          let test : eq_by_cmp customer_cmp payer j ≡ true = ap (eq_by_cmp customer_cmp payer) s.0
          ∙ is_self customer_total exact_customer payer in
          let own : if_of_customer j payer 1 ≡ 1 = ap (λ b. cond b 1 0) test in
          let now : u.account.payment_count + 1 ≡ x.account.payment_count =
          ap (λ (y : Customer). y.account.payment_count) s.1 in
          let all = payments_now j in
          omega arith
      go (inr s) =
          let before : x.account.payment_count ≡ payments_of r j = m.payment_count j x s.1 in
          let none : if_of_customer j payer 1 ≡ 0 = ap (λ b. cond b 1 0)
          (not_turned customer_total exact_customer j payer s.0) in
          let all = payments_now j in
          omega arith

  delivery_now : Delivery_count initial paid
  delivery_now j x e = go (own_or_old customer_total exact_customer r.customers payer (paid_customer c q u) j x e)
    where
      go : ((j ≡ payer) × (paid_customer c q u ≡ x))
          ⊎ ((eq_by_cmp customer_cmp j payer ≡ false) × (get r.customers j ≡ Some x))
          → Delivery_count_at initial paid j x
      go (inl s) = subst (λ (y : Customer). Delivery_count_at initial paid j y) s.1
          (m.delivery_count j u (ap (get r.customers) s.0 ∙ u_at))
      go (inr s) = m.delivery_count j x s.1

  pub paid_movements : Movements initial paid
  paid_movements = record {
    stock_ytd = m.stock_ytd;
    stock_orders = m.stock_orders;
    stock_remote = m.stock_remote;
    payment_count = payment_now;
    delivery_count = delivery_now;
    all_local = m.all_local;
    stock_quantity = m.stock_quantity;
  }

  pub paid_first : IsNumberedFirst initial paid
  paid_first = record {
    next_orders = each_row district_total exact_district (λ h x. initial < x.next_order) r.districts q.district
        (paid_district q d) (first.next_orders q.district d d_at) first.next_orders;
    waiting = first.waiting;
  }

pub payment_moves : (initial t k : ℕ) (q : PaymentRequest) (r after : Rows) (y : Reply)
    → get r.histories (history_key t k) ≡ None → IsNumberedFirst initial r → Movements initial r
    → payment_effect t k q r ≡ Some (after, y) → IsNumberedFirst initial after × Movements initial after
payment_moves initial t k q r after y new first m e =
    let P : Type 0 = IsNumberedFirst initial after × Movements initial after in
    there P (get r.warehouses (warehouse_of_district q.district)) _ _ e (λ w _ e.
    there_in_range P paid_warehouse_out (paid_warehouse q w) _ _ e (λ _ e.
    there P (get r.districts q.district) _ _ e (λ d d_at e.
    there_in_range P paid_district_out (paid_district q d) _ _ e (λ _ e.
    there P (customer_meant q.customer_district q.customer r.customers) _ _ e (λ c _ e.
    there P (get r.customers (customer_in q.customer_district c)) _ _ e (λ u u_at e.
    there_in_range P paid_customer_out (paid_customer c q u) _ _ e (λ _ e.
    let rows : Rows = paid initial t k q r first m new w d d_at c u u_at in
    let same : rows ≡ after = made_by rows after _ y e in
    subst (λ (v : Rows). IsNumberedFirst initial v × Movements initial v) same (
      paid_first initial t k q r first m new w d d_at c u u_at,
      paid_movements initial t k q r first m new w d d_at c u u_at,
    ))))))))

-- A RENAME

module _ (initial : ℕ) (q : RenameRequest) (r : Rows) (m : Movements initial r) (u : Customer)
    (u_at : get r.customers q.customer ≡ Some u) where
  abbrev named : Rows
  named = record r { customers = insert r.customers q.customer (with_new_name q u) }

  -- what the names don't tell
  still : (P : CustomerKey → Customer → Type 0) → P q.customer (with_new_name q u)
      → ((j : CustomerKey) (x : Customer) → get r.customers j ≡ Some x → P j x)
      → (j : CustomerKey) (x : Customer) → get named.customers j ≡ Some x → P j x
  still P own old = each_row customer_total exact_customer P r.customers q.customer (with_new_name q u) own old

  pub named_movements : Movements initial named
  named_movements = record {
    stock_ytd = m.stock_ytd;
    stock_orders = m.stock_orders;
    stock_remote = m.stock_remote;
    payment_count = still (Payment_count_at named) (m.payment_count q.customer u u_at) m.payment_count;
    delivery_count = still (Delivery_count_at initial named) (m.delivery_count q.customer u u_at) m.delivery_count;
    all_local = m.all_local;
    stock_quantity = m.stock_quantity;
  }

  pub named_first : IsNumberedFirst initial r → IsNumberedFirst initial named
  named_first first = record { next_orders = first.next_orders; waiting = first.waiting }

pub rename_moves : (initial : ℕ) (q : RenameRequest) (r after : Rows) (y : Reply) → IsNumberedFirst initial r
    → Movements initial r → rename_effect q r ≡ Some (after, y)
    → IsNumberedFirst initial after × Movements initial after
rename_moves initial q r after y first m e =
    there (IsNumberedFirst initial after × Movements initial after) (get r.customers q.customer) _ _ e (λ u u_at e.
    subst (λ (v : Rows). IsNumberedFirst initial v × Movements initial v)
    (made_by (named initial q r m u u_at) after _ y e)
    (named_first initial q r m u u_at first, named_movements initial q r m u u_at))
