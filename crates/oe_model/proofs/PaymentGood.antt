-- Payment keeps conditions 1 to 4, and that no transaction to come has a HISTORY row.
use Rattle.std.proofs.Common.{◌≡◌, ℕ, suc, ◌+◌, ◌<◌, ◌≤◌, sym, ◌∙◌, ap, subst, true, false, cond, Option, Some, None}
use Rattle.std.proofs.Common.{inl, inr, arith}
use Rattle.std.specs.Prelude.{◌⊎◌, IsSome}
use Rattle.std.specs.Ordering.{eq_by_cmp}
use Rattle.std.specs.FinMap.{get, insert}
use Rattle.oe_theory.specs.World.{bump}
use Rattle.oe_rows.specs.Key.{warehouse_cmp, history_cmp}
use Rattle.oe_rows.specs.declared.keys.WarehouseKey.{WarehouseKey}
use Rattle.oe_rows.specs.declared.keys.DistrictKey.{DistrictKey}
use Rattle.oe_rows.specs.declared.keys.HistoryKey.{HistoryKey}
use Rattle.oe_rows.specs.declared.warehouses.Warehouse.{Warehouse}
use Rattle.oe_rows.specs.declared.districts.District.{District}
use Rattle.oe_rows.specs.declared.customers.Customer.{Customer}
use Rattle.oe_requests.specs.declared.requests.PaymentRequest.{PaymentRequest}
use Rattle.oe_requests.specs.declared.replies.Reply.{Reply}
use Rattle.oe_rows.proofs.KeyFacts.{warehouse_total, exact_warehouse, district_total, exact_district, history_total}
use Rattle.oe_rows.proofs.KeyFacts.{exact_history}
use Rattle.oe_model.specs.Keys.{warehouse_of_district, customer_in}
use Rattle.oe_model.specs.Rows.{Rows}
use Rattle.oe_model.specs.Maps.{sum_of}
use Rattle.oe_model.specs.Meets.{Meets}
use Rattle.oe_model.specs.Choice.{customer_meant}
use Rattle.oe_model.specs.Payment.{payment_effect, paid_warehouse, paid_district, paid_customer, paid_warehouse_out}
use Rattle.oe_model.specs.Payment.{paid_district_out, paid_customer_out, history_data, history_row, history_key}
use Rattle.oe_model.specs.Conditions.{Good, Condition_1, Condition_2, Condition_2_at, IsStocked, ytd_of}
use Rattle.oe_model.specs.Conditions.{if_of_warehouse}
use Rattle.oe_model.proofs.MapFacts.{is_self}
use Rattle.oe_model.proofs.SumFacts.{number_at, sum-insert}
use Rattle.oe_model.proofs.EffectFacts.{made_by, there, there_in_range, bump_own, bump_below}
use Rattle.oe_model.proofs.PresenceFacts.{present_before, some_present, key_cases, not_turned, get_other, own_or_old}
use Rattle.oe_model.proofs.PresenceFacts.{each_row}

module _ (f : ℕ → ℕ) (t k : ℕ) (q : PaymentRequest) (r : Rows) (g : Good f r) (is_next : k ≡ suc (f t))
    (w : Warehouse) (w_at : get r.warehouses (warehouse_of_district q.district) ≡ Some w)
    (d : District) (d_at : get r.districts q.district ≡ Some d)
    (c : ℕ) (u : Customer) where
  abbrev pub paid_rows : Rows
  paid_rows = record r {
    warehouses = insert r.warehouses (warehouse_of_district q.district) (paid_warehouse q w);
    districts = insert r.districts q.district (paid_district q d);
    customers = insert r.customers (customer_in q.customer_district c) (paid_customer c q u);
    histories = insert r.histories (history_key t k) (history_row q c (history_data w.name d.name));
  }

  abbrev home : WarehouseKey
  home = warehouse_of_district q.district

  was_district : (h : DistrictKey) → IsSome (get paid_rows.districts h) → IsSome (get r.districts h)
  was_district h p = present_before district_total exact_district r.districts q.district (paid_district q d) h
      (some_present (get r.districts q.district) d d_at) p

  abbrev of : WarehouseKey → DistrictKey → District → ℕ
  of j h y = if_of_warehouse j h y.ytd

  paid_sum : (j : WarehouseKey) → ytd_of paid_rows j + of j q.district d ≡ ytd_of r j + of j q.district
      (paid_district q d)
  paid_sum j = ap (λ (v : Option District). sum_of (of j) paid_rows.districts + number_at (of j) q.district v)
      (sym d_at) ∙ sum-insert district_total exact_district (of j) r.districts q.district (paid_district q d)

  paid_1 : Condition_1 paid_rows
  paid_1 j x e = go (own_or_old warehouse_total exact_warehouse r.warehouses home (paid_warehouse q w) j x e)
    where
      own : home ≡ j → paid_warehouse q w ≡ x → x.ytd ≡ ytd_of paid_rows j
      own s v =
          let before : w.ytd ≡ ytd_of r j = g.condition_1 j w (ap (get r.warehouses) (sym s) ∙ w_at) in
          let test : eq_by_cmp warehouse_cmp home j ≡ true = ap (λ (i : WarehouseKey). eq_by_cmp warehouse_cmp home i)
          (sym s) ∙ is_self warehouse_total exact_warehouse home in
          let one : of j q.district d ≡ d.ytd = ap (λ b. cond b d.ytd 0) test in
          let two : of j q.district (paid_district q d) ≡ d.ytd + q.amount =
          ap (λ b. cond b (d.ytd + q.amount) 0) test in
          let sum = paid_sum j in
          let new : w.ytd + q.amount ≡ x.ytd = ap (λ (y : Warehouse). y.ytd) v in
          omega arith

      other : eq_by_cmp warehouse_cmp j home ≡ false → get r.warehouses j ≡ Some x → x.ytd ≡ ytd_of paid_rows j
      other n v =
          let before : x.ytd ≡ ytd_of r j = g.condition_1 j x v in
          let test : eq_by_cmp warehouse_cmp home j ≡ false = not_turned warehouse_total exact_warehouse j home n in
          let one : of j q.district d ≡ 0 = ap (λ b. cond b d.ytd 0) test in
          let two : of j q.district (paid_district q d) ≡ 0 = ap (λ b. cond b (d.ytd + q.amount) 0) test in
          let sum = paid_sum j in
          omega arith

      go : ((j ≡ home) × (paid_warehouse q w ≡ x))
          ⊎ ((eq_by_cmp warehouse_cmp j home ≡ false) × (get r.warehouses j ≡ Some x)) → x.ytd ≡ ytd_of paid_rows j
      go (inl h) = own (sym h.0) h.1
      go (inr h) = other h.0 h.1

  paid_2 : Condition_2 paid_rows
  paid_2 =
      each_row district_total exact_district (λ h x. Condition_2_at paid_rows h x) r.districts q.district
      (paid_district q d)
      (let own = g.condition_2 q.district d d_at in record { orders = own.orders; new_orders = own.new_orders })
      (λ h x e. let old = g.condition_2 h x e in record { orders = old.orders; new_orders = old.new_orders })

  paid_unused : (j : HistoryKey) → 1 ≤ j.terminal → bump t f j.terminal < j.number → get paid_rows.histories j ≡ None
  paid_unused j real less = go (key_cases history_total exact_history j (history_key t k))
    where
      go : (j ≡ history_key t k) ⊎ (eq_by_cmp history_cmp j (history_key t k) ≡ false)
          → get paid_rows.histories j ≡ None
      go (inl s) =
          let a : j.terminal ≡ t = ap (λ (i : HistoryKey). i.terminal) s in
          let b : j.number ≡ k = ap (λ (i : HistoryKey). i.number) s in
          let h : bump t f j.terminal ≡ suc (f t) = ap (bump t f) a ∙ bump_own t f in
          absurd (let no : ⊥ = omega arith in no)
      go (inr n) =
          let h = bump_below t f j.terminal in
          get_other history_total exact_history r.histories (history_key t k) _ j n
          ∙ g.unused j real (let z : f j.terminal < j.number = omega arith in z)

  pub paid_good : Meets paid_rows → IsStocked paid_rows → Good (bump t f) paid_rows
  paid_good meets stocked = record {
    meets = meets;
    condition_1 = paid_1;
    condition_2 = paid_2;
    condition_3 = λ h p. g.condition_3 h (was_district h p);
    condition_4 = λ h p. g.condition_4 h (was_district h p);
    stocked = stocked;
    unused = paid_unused;
  }

pub payment_good : (f : ℕ → ℕ) (t k : ℕ) (q : PaymentRequest) (r after : Rows) (y : Reply) → Good f r → k ≡ suc (f t)
    → Meets after → IsStocked after → payment_effect t k q r ≡ Some (after, y) → Good (bump t f) after
payment_good f t k q r after y g n meets stocked e =
    let P : Type 0 = Good (bump t f) after in
    there P (get r.warehouses (warehouse_of_district q.district)) _ _ e (λ w w_at e.
    there_in_range P paid_warehouse_out (paid_warehouse q w) _ _ e (λ _ e.
    there P (get r.districts q.district) _ _ e (λ d d_at e.
    there_in_range P paid_district_out (paid_district q d) _ _ e (λ _ e.
    there P (customer_meant q.customer_district q.customer r.customers) _ _ e (λ c _ e.
    there P (get r.customers (customer_in q.customer_district c)) _ _ e (λ u _ e.
    there_in_range P paid_customer_out (paid_customer c q u) _ _ e (λ _ e.
    let made : Rows = paid_rows f t k q r g n w w_at d d_at c u in
    let same : made ≡ after = made_by made after _ y e in
    subst (λ (v : Rows). Good (bump t f) v) same
    (paid_good f t k q r g n w w_at d d_at c u (subst (λ (v : Rows). Meets v) (sym same) meets)
    (subst (λ (v : Rows). IsStocked v) (sym same) stocked)))))))))
