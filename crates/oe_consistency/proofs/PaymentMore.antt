-- Payment keeps conditions 5 to 10 and 12.
use Rattle.std.proofs.Common.{◌≡◌, ℕ, ◌+◌, ◌∙◌, ap, subst, Bool, true, false, cond, Some, None, inl, inr, arith, ℤ, pos}
use Rattle.std.proofs.Common.{◌+ℤ◌, ◌-ℤ◌}
use Rattle.std.specs.Prelude.{◌⊎◌}
use Rattle.std.specs.Ordering.{eq_by_cmp}
use Rattle.std.proofs.lemmas.Int.{ints}
use Rattle.std.specs.FinMap.{get, insert}
use Rattle.oe_rows.specs.Key.{warehouse_cmp, district_cmp, customer_cmp}
use Rattle.oe_rows.specs.declared.keys.WarehouseKey.{WarehouseKey}
use Rattle.oe_rows.specs.declared.keys.CustomerKey.{CustomerKey}
use Rattle.oe_rows.specs.declared.keys.HistoryKey.{HistoryKey}
use Rattle.oe_rows.specs.declared.warehouses.Warehouse.{Warehouse}
use Rattle.oe_rows.specs.declared.districts.District.{District}
use Rattle.oe_rows.specs.declared.customers.Customer.{Customer}
use Rattle.oe_rows.specs.declared.histories.History.{History}
use Rattle.oe_requests.specs.declared.requests.PaymentRequest.{PaymentRequest}
use Rattle.oe_requests.specs.declared.replies.Reply.{Reply}
use Rattle.oe_rows.proofs.KeyFacts.{warehouse_total, exact_warehouse, district_total, exact_district, customer_total}
use Rattle.oe_rows.proofs.KeyFacts.{exact_customer, history_total, exact_history}
use Rattle.oe_model.specs.Keys.{warehouse_of_district, customer_in}
use Rattle.oe_model.specs.Rows.{Rows}
use Rattle.oe_model.specs.Maps.{sum_of}
use Rattle.oe_model.specs.Choice.{customer_meant}
use Rattle.oe_model.specs.Payment.{payment_effect, paid_warehouse, paid_district, paid_customer, paid_warehouse_out}
use Rattle.oe_model.specs.Payment.{paid_district_out, paid_customer_out, history_data, history_row, history_key}
use Rattle.oe_model.specs.Conditions.{if_of_warehouse, if_of}
use Rattle.oe_model.specs.FurtherConditions.{More, if_of_customer, paid_in_warehouse, paid_in_district, paid_by}
use Rattle.oe_model.specs.FurtherConditions.{delivered_for, Condition_8, Condition_9, Condition_10, Condition_12}
use Rattle.oe_model.specs.FurtherConditions.{Condition_10_at, Condition_12_at}
use Rattle.oe_model.proofs.MapFacts.{is_self}
use Rattle.oe_model.proofs.SumFacts.{number_at, sum-insert}
use Rattle.oe_model.proofs.EffectFacts.{made_by, there, there_in_range}
use Rattle.oe_model.proofs.PresenceFacts.{not_turned, own_or_old}

-- a number that counts for its own key, or for another one
counts_own : (b : Bool) (n : ℕ) → b ≡ true → cond b n 0 ≡ n
counts_own b n e = ap (λ c. cond c n 0) e

counts_none : (b : Bool) (n : ℕ) → b ≡ false → cond b n 0 ≡ 0
counts_none b n e = ap (λ c. cond c n 0) e

-- a balance after a payment, where one more amount counts as paid
paid_off : (z : ℤ) (d p a n : ℕ) → z ≡ pos d -ℤ pos p → n ≡ p + a → z -ℤ pos a ≡ pos d -ℤ pos n
paid_off z d p a n e m = omega (arith, ints)

paid_on : (z : ℤ) (y d a : ℕ) → z +ℤ pos y ≡ pos d → (z -ℤ pos a) +ℤ pos (y + a) ≡ pos d
paid_on z y d a e = omega (arith, ints)

module _ (t k : ℕ) (q : PaymentRequest) (r : Rows) (more : More r) (new : get r.histories (history_key t k) ≡ None)
    (w : Warehouse) (w_at : get r.warehouses (warehouse_of_district q.district) ≡ Some w)
    (d : District) (d_at : get r.districts q.district ≡ Some d)
    (c : ℕ) (u : Customer) (u_at : get r.customers (customer_in q.customer_district c) ≡ Some u) where
  abbrev home : WarehouseKey
  home = warehouse_of_district q.district

  abbrev payer : CustomerKey
  payer = customer_in q.customer_district c

  abbrev row : History
  row = history_row q c (history_data w.name d.name)

  abbrev pub paid : Rows
  paid = record r {
    warehouses = insert r.warehouses home (paid_warehouse q w);
    districts = insert r.districts q.district (paid_district q d);
    customers = insert r.customers payer (paid_customer c q u);
    histories = insert r.histories (history_key t k) row;
  }

  -- each sum of H_AMOUNT has one more row
  one_more : (F : HistoryKey → History → ℕ) → sum_of F paid.histories ≡ sum_of F r.histories + F (history_key t k) row
  one_more F =
      let sum = sum-insert history_total exact_history F r.histories (history_key t k) row in
      let none : number_at F (history_key t k) (get r.histories (history_key t k)) ≡ 0 =
      ap (number_at F (history_key t k)) new in
      omega arith

  paid_8 : Condition_8 paid
  paid_8 j x e = go (own_or_old warehouse_total exact_warehouse r.warehouses home (paid_warehouse q w) j x e)
    where
      sum : paid_in_warehouse paid j ≡ paid_in_warehouse r j + if_of_warehouse j q.district q.amount
      sum = one_more (λ i y. if_of_warehouse j y.district y.amount)

      go : ((j ≡ home) × (paid_warehouse q w ≡ x))
          ⊎ ((eq_by_cmp warehouse_cmp j home ≡ false) × (get r.warehouses j ≡ Some x))
          → x.ytd ≡ paid_in_warehouse paid j
      go (inl h) =
          let before : w.ytd ≡ paid_in_warehouse r j = more.condition_8 j w (ap (get r.warehouses) h.0 ∙ w_at) in
          let test : eq_by_cmp warehouse_cmp home j ≡ true = ap (eq_by_cmp warehouse_cmp home) h.0
          ∙ is_self warehouse_total exact_warehouse home in
          let own = counts_own (eq_by_cmp warehouse_cmp home j) q.amount test in
          let now : w.ytd + q.amount ≡ x.ytd = ap (λ (y : Warehouse). y.ytd) h.1 in
          let all = sum in
          omega arith
      go (inr h) =
          let before : x.ytd ≡ paid_in_warehouse r j = more.condition_8 j x h.1 in
          let none = counts_none (eq_by_cmp warehouse_cmp home j) q.amount
          (not_turned warehouse_total exact_warehouse j home h.0) in
          let all = sum in
          omega arith

  paid_9 : Condition_9 paid
  paid_9 j x e = go (own_or_old district_total exact_district r.districts q.district (paid_district q d) j x e)
    where
      sum : paid_in_district paid j ≡ paid_in_district r j + if_of j q.district q.amount
      sum = one_more (λ i y. if_of j y.district y.amount)

      go : ((j ≡ q.district) × (paid_district q d ≡ x))
          ⊎ ((eq_by_cmp district_cmp j q.district ≡ false) × (get r.districts j ≡ Some x))
          → x.ytd ≡ paid_in_district paid j
      go (inl h) =
          let before : d.ytd ≡ paid_in_district r j = more.condition_9 j d (ap (get r.districts) h.0 ∙ d_at) in
          let test : eq_by_cmp district_cmp q.district j ≡ true = ap (eq_by_cmp district_cmp q.district) h.0
          ∙ is_self district_total exact_district q.district in
          let own = counts_own (eq_by_cmp district_cmp q.district j) q.amount test in
          let now : d.ytd + q.amount ≡ x.ytd = ap (λ (y : District). y.ytd) h.1 in
          let all = sum in
          omega arith
      go (inr h) =
          let before : x.ytd ≡ paid_in_district r j = more.condition_9 j x h.1 in
          let none = counts_none (eq_by_cmp district_cmp q.district j) q.amount
          (not_turned district_total exact_district j q.district h.0) in
          let all = sum in
          omega arith

  paid_10 : Condition_10 paid
  paid_10 j x e = go (own_or_old customer_total exact_customer r.customers payer (paid_customer c q u) j x e)
    where
      sum : paid_by paid j ≡ paid_by r j + if_of_customer j payer q.amount
      sum = one_more (λ i y. if_of_customer j y.customer y.amount)

      go : ((j ≡ payer) × (paid_customer c q u ≡ x))
          ⊎ ((eq_by_cmp customer_cmp j payer ≡ false) × (get r.customers j ≡ Some x)) → Condition_10_at paid j x
      go (inl h) =
          let before : u.account.balance ≡ pos (delivered_for r j) -ℤ pos (paid_by r j) =
          more.condition_10 j u (ap (get r.customers) h.0 ∙ u_at) in
          let test : eq_by_cmp customer_cmp payer j ≡ true = ap (eq_by_cmp customer_cmp payer) h.0
          ∙ is_self customer_total exact_customer payer in
          let own = counts_own (eq_by_cmp customer_cmp payer j) q.amount test in
          subst (λ (y : Customer). Condition_10_at paid j y) h.1
          (paid_off u.account.balance (delivered_for r j) (paid_by r j) q.amount (paid_by paid j) before
          (sum ∙ ap (λ n. paid_by r j + n) own))
      go (inr h) =
          let before : x.account.balance ≡ pos (delivered_for r j) -ℤ pos (paid_by r j) = more.condition_10 j x h.1 in
          let none = counts_none (eq_by_cmp customer_cmp payer j) q.amount
          (not_turned customer_total exact_customer j payer h.0) in
          let same : paid_by r j ≡ paid_by paid j = (let all = sum in omega arith) in
          before ∙ ap (λ n. pos (delivered_for r j) -ℤ pos n) same

  paid_12 : Condition_12 paid
  paid_12 j x e = go (own_or_old customer_total exact_customer r.customers payer (paid_customer c q u) j x e)
    where
      go : ((j ≡ payer) × (paid_customer c q u ≡ x))
          ⊎ ((eq_by_cmp customer_cmp j payer ≡ false) × (get r.customers j ≡ Some x)) → Condition_12_at paid j x
      go (inl h) =
          let before : u.account.balance +ℤ pos u.account.ytd_payment ≡ pos (delivered_for r j) =
          more.condition_12 j u (ap (get r.customers) h.0 ∙ u_at) in
          subst (λ (y : Customer). Condition_12_at paid j y) h.1
          (paid_on u.account.balance u.account.ytd_payment (delivered_for r j) q.amount before)
      go (inr h) = more.condition_12 j x h.1

  pub paid_more : More paid
  paid_more = record {
    condition_5 = more.condition_5;
    condition_6 = more.condition_6;
    condition_7 = more.condition_7;
    condition_8 = paid_8;
    condition_9 = paid_9;
    condition_10 = paid_10;
    condition_12 = paid_12;
  }

pub payment_more : (t k : ℕ) (q : PaymentRequest) (r after : Rows) (y : Reply)
    → get r.histories (history_key t k) ≡ None → More r → payment_effect t k q r ≡ Some (after, y) → More after
payment_more t k q r after y new more e =
    let P : Type 0 = More after in
    there P (get r.warehouses (warehouse_of_district q.district)) _ _ e (λ w w_at e.
    there_in_range P paid_warehouse_out (paid_warehouse q w) _ _ e (λ _ e.
    there P (get r.districts q.district) _ _ e (λ d d_at e.
    there_in_range P paid_district_out (paid_district q d) _ _ e (λ _ e.
    there P (customer_meant q.customer_district q.customer r.customers) _ _ e (λ c _ e.
    there P (get r.customers (customer_in q.customer_district c)) _ _ e (λ u u_at e.
    there_in_range P paid_customer_out (paid_customer c q u) _ _ e (λ _ e.
    let made : Rows = paid t k q r more new w w_at d d_at c u u_at in
    let same : made ≡ after = made_by made after _ y e in
    subst More same (paid_more t k q r more new w w_at d d_at c u u_at))))))))
