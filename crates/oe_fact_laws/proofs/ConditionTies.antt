-- Conditions 1, 4, 5, 6, 8 and 9 are checked: a row's figure against a sum, or two sums.
use Rattle.std.proofs.Common.{◌≡◌, ℕ, refl, sym, ◌∙◌, ap, Bool, true, false, cond, Option, Some, None, inl, inr}
use Rattle.std.proofs.Common.{pos, nat_eq}
use Rattle.std.specs.Prelude.{◌⊎◌, ◌↔◌, IsSome, is_some, unwrap_or, option_map}
use Rattle.std.specs.Int.{int_max, int_min}
use Rattle.std.specs.Ordering.{eq_by_cmp}
use Rattle.std.specs.FinMap.{get}
use Rattle.oe_rows.specs.Key.{district_cmp}
use Rattle.oe_rows.specs.declared.keys.WarehouseKey.{WarehouseKey}
use Rattle.oe_rows.specs.declared.keys.DistrictKey.{DistrictKey}
use Rattle.oe_rows.specs.declared.keys.OrderKey.{OrderKey}
use Rattle.oe_rows.specs.declared.orders.Order.{Order}
use Rattle.oe_rows.specs.declared.orders.OrderLine.{OrderLine}
use Rattle.oe_rows.specs.declared.keys.OrderLineKey.{OrderLineKey}
use Rattle.oe_rows.proofs.KeyFacts.{warehouse_total, exact_warehouse, district_total, exact_district, history_total}
use Rattle.oe_rows.proofs.KeyFacts.{new_order_total, exact_new_order, order_total, exact_order, order_line_total}
use Rattle.oe_rows.proofs.KeyFacts.{exact_order_line}
use Rattle.oe_model.specs.Keys.{warehouse_of_district, district_of_order, district_of_customer, customer_of_order}
use Rattle.oe_model.specs.Keys.{order_of_line, order_of_new_order, new_order_in}
use Rattle.oe_model.specs.Rows.{Rows}
use Rattle.oe_model.specs.Meets.{Meets}
use Rattle.oe_model.specs.Conditions as model
use Rattle.oe_model.specs.Conditions.{if_of_warehouse, if_of, ytd_of}
use Rattle.oe_model.specs.FurtherConditions as further
use Rattle.oe_model.specs.FurtherConditions.{if_of_order, paid_in_warehouse}
use Rattle.oe_model.proofs.SumFacts.{sum-none}
use Rattle.oe_model.proofs.PresenceFacts.{present_some, present_or_absent, missing, key_cases}
use Rattle.oe_ledgers.specs.ColumnLaws.{int_max_associative, int_max_commutative}
use Rattle.oe_ledgers.specs.Keys.{same_district, same_order}
use Rattle.oe_ledgers.specs.Keys as ids
use Rattle.oe_ledgers.specs.Figures.{w_ytd, d_ytd, d_ytd_of_warehouse, is_open, has_new_order}
use Rattle.oe_ledgers.specs.Figures.{o_line_count}
use Rattle.oe_ledgers.specs.Figures as figures
use Rattle.oe_checks.specs.Conditions as checks
use Rattle.oe_fact_laws.specs.Facts.{Facts, AreFactsOf, warehouse_fact, district_fact, history_fact, new_order_fact}
use Rattle.oe_fact_laws.specs.Facts.{order_fact, line_fact, district_id, order_id}
use Rattle.oe_fact_laws.specs.FactLaws.{FindsNothing}
use Rattle.oe_fact_laws.proofs.FigureFacts.{of_row, sum_of_group}
use Rattle.oe_fact_laws.proofs.TiedFacts.{warehouse_tie, district_tie, order_tie}
use Rattle.oe_fact_laws.proofs.TiedFacts.{against_sums, counts_for, even_tied, itself}
use Rattle.oe_fact_laws.proofs.TiedFacts.{int_min_associative, int_min_commutative}

module _ (f : Facts) (r : Rows) (are : AreFactsOf f r) where
  -- W_YTD, D_YTD and O_OL_CNT
  w_ytd_is : (w : WarehouseKey) → w_ytd f.warehouses w.warehouse ≡ option_map (λ x. pos x.ytd) (get r.warehouses w)
  w_ytd_is w =
      of_row warehouse_total exact_warehouse warehouse_fact r.warehouses f.warehouses are.warehouses nat_eq
      (λ z. z.warehouse) int_max int_max_associative int_max_commutative (λ z. z.ytd) (λ k. k.warehouse)
      (λ a x b. warehouse_tie a b) w

  d_ytd_is : (h : DistrictKey) → d_ytd f.districts (district_id h) ≡ option_map (λ x. pos x.ytd) (get r.districts h)
  d_ytd_is h =
      of_row district_total exact_district district_fact r.districts f.districts are.districts same_district
      (λ z. z.key) int_max int_max_associative int_max_commutative (λ z. z.ytd) district_id
      (λ a x b. district_tie a b) h

  line_count_is : (k : OrderKey) → o_line_count f.orders (order_id k) ≡ option_map (λ x. pos x.line_count)
      (get r.orders k)
  line_count_is k =
      of_row order_total exact_order order_fact r.orders f.orders are.orders same_order (λ z. z.key) int_max
      int_max_associative int_max_commutative (λ z. pos z.line_count) order_id (λ a x b. order_tie a b) k

  -- sums
  ytd_is : (w : WarehouseKey) → unwrap_or (d_ytd_of_warehouse f.districts w.warehouse) (pos 0) ≡ pos (ytd_of r w)
  ytd_is w =
      sum_of_group district_total district_fact r.districts f.districts are.districts nat_eq (λ z. z.key.warehouse)
      (λ z. z.ytd) w.warehouse (λ h y. if_of_warehouse w h y.ytd)
      (λ h y e. counts_for _ _ y.ytd (warehouse_tie (warehouse_of_district h) w))

  paid_here : (w : WarehouseKey)
      → unwrap_or (figures.paid_in_warehouse f.histories w.warehouse) (pos 0) ≡ pos (paid_in_warehouse r w)
  paid_here w =
      sum_of_group history_total history_fact r.histories f.histories are.histories nat_eq (λ z. z.district.warehouse)
      (λ z. z.amount) w.warehouse (λ k y. if_of_warehouse w y.district y.amount)
      (λ k y e. counts_for _ _ y.amount (warehouse_tie (warehouse_of_district y.district) w))

  paid_there : (h : DistrictKey)
      → unwrap_or (figures.paid_in_district f.histories (district_id h)) (pos 0) ≡ pos (further.paid_in_district r h)
  paid_there h =
      sum_of_group history_total history_fact r.histories f.histories are.histories same_district (λ z. z.district)
      (λ z. z.amount) (district_id h) (λ k y. if_of h y.district y.amount)
      (λ k y e. counts_for _ _ y.amount (district_tie y.district h))

  pub lines_are : (k : OrderKey)
      → unwrap_or (figures.lines_of_order f.order_lines (order_id k)) (pos 0) ≡ pos (further.lines_of_order r k)
  lines_are k =
      sum_of_group order_line_total line_fact r.order_lines f.order_lines are.order_lines same_order (λ z. z.order)
      (λ z. pos 1) (order_id k) (λ l y. if_of_order k (order_of_line l) 1)
      (λ l y e. counts_for _ _ 1 (order_tie (order_of_line l) k))

  asked_are : (h : DistrictKey)
      → unwrap_or (figures.lines_asked f.orders (district_id h)) (pos 0) ≡ pos (model.lines_asked r h)
  asked_are h =
      sum_of_group order_total order_fact r.orders f.orders are.orders same_district (λ z. ids.district_of_order z.key)
      (λ z. pos z.line_count) (district_id h) (λ k y. if_of h (district_of_order k) y.line_count)
      (λ k y e. counts_for _ _ y.line_count (district_tie (district_of_order k) h))

  there_are : (h : DistrictKey)
      → unwrap_or (figures.lines_there f.order_lines (district_id h)) (pos 0) ≡ pos (model.lines_there r h)
  there_are h =
      sum_of_group order_line_total line_fact r.order_lines f.order_lines are.order_lines same_district
      (λ z. ids.district_of_order z.order) (λ z. pos 1) (district_id h)
      (λ l y. if_of h (district_of_order (order_of_line l)) 1)
      (λ l y e. counts_for _ _ 1 (district_tie (district_of_order (order_of_line l)) h))

  pub condition_1 : FindsNothing (checks.condition_1 f.warehouses f.districts) ↔ model.Condition_1 r
  condition_1 = against_sums r.warehouses (model.Condition_1_at r) (λ w. w.warehouse) (λ j. record { warehouse = j })
      (λ j. refl) (w_ytd f.warehouses) (d_ytd_of_warehouse f.districts) (λ w x. x.ytd) (ytd_of r) w_ytd_is ytd_is
      (λ w x e. itself)

  pub condition_8 : FindsNothing (checks.condition_8 f.warehouses f.histories) ↔ further.Condition_8 r
  condition_8 = against_sums r.warehouses (further.Condition_8_at r) (λ w. w.warehouse)
      (λ j. record { warehouse = j }) (λ j. refl) (w_ytd f.warehouses) (figures.paid_in_warehouse f.histories)
      (λ w x. x.ytd) (paid_in_warehouse r) w_ytd_is paid_here (λ w x e. itself)

  pub condition_9 : FindsNothing (checks.condition_9 f.districts f.histories) ↔ further.Condition_9 r
  condition_9 = against_sums r.districts (further.Condition_9_at r) district_id
      (λ j. record { warehouse = j.warehouse; district = j.district }) (λ j. refl) (d_ytd f.districts)
      (figures.paid_in_district f.histories) (λ h x. x.ytd) (further.paid_in_district r) d_ytd_is paid_there
      (λ h x e. itself)

  pub condition_6 : FindsNothing (checks.condition_6 f.orders f.order_lines) ↔ further.Condition_6 r
  condition_6 = against_sums r.orders (further.Condition_6_at r) order_id
      (λ j. record { warehouse = j.warehouse; district = j.district; order = j.order }) (λ j. refl)
      (o_line_count f.orders) (figures.lines_of_order f.order_lines) (λ k x. x.line_count) (further.lines_of_order r)
      line_count_is lines_are (λ k x e. itself)

  -- 1 where an order has no carrier, and where it is in the queue
  open_is : (k : OrderKey)
      → is_open f.orders (order_id k) ≡ option_map (λ x. pos (cond (is_some x.carrier) 0 1)) (get r.orders k)
  open_is k =
      of_row order_total exact_order order_fact r.orders f.orders are.orders same_order (λ z. z.key) int_min
      int_min_associative int_min_commutative (λ z. pos (cond z.is_delivered 0 1)) order_id (λ a x b. order_tie a b) k

  abbrev queued : OrderKey → ℕ
  queued k = cond (is_some (get r.new_orders (new_order_in (district_of_order k) k.order))) 1 0

  queued_is : (k : OrderKey) → unwrap_or (has_new_order f.new_orders (order_id k)) (pos 0) ≡ pos (queued k)
  queued_is k =
      ap (λ s. unwrap_or s (pos 0))
      (of_row new_order_total exact_new_order new_order_fact r.new_orders f.new_orders are.new_orders same_order
      (λ z. z.key) int_max int_max_associative int_max_commutative (λ z. pos 1) (λ j. order_id (order_of_new_order j))
      (λ a x b. order_tie (order_of_new_order a) (order_of_new_order b)) (new_order_in (district_of_order k) k.order))
      ∙ one (get r.new_orders (new_order_in (district_of_order k) k.order))
    where
      one : {A : Type 0} (v : Option A) → unwrap_or (option_map (λ (x : A). pos 1) v) (pos 0) ≡ pos
          (cond (is_some v) 1 0)
      one None = refl
      one (Some x) = refl

  pub condition_5 : FindsNothing (checks.condition_5 f.orders f.new_orders) ↔ further.Condition_5 r
  condition_5 = against_sums r.orders (further.Condition_5_at r) order_id
      (λ j. record { warehouse = j.warehouse; district = j.district; order = j.order }) (λ j. refl)
      (is_open f.orders) (has_new_order f.new_orders) (λ k x. cond (is_some x.carrier) 0 1) queued open_is queued_is
      (λ k x e. so x.carrier (is_some (get r.new_orders (new_order_in (district_of_order k) k.order))))
    where
      so : (v : Option ℕ) (b : Bool) → (◌≡◌ {A = ℕ} (cond (is_some v) 0 1) (cond b 1 0)) ↔ ((v ≡ None) ↔ (b ≡ true))
      so None true = (λ _. (λ _. refl, λ _. refl), λ _. refl)
      so None false = (
        λ e. let no : ⊥ = cc in absurd no,
        λ h. let g : false ≡ true = h.0 refl in let no : ⊥ = cc in
            absurd no,
      )
      so (Some n) true = (
        λ e. let no : ⊥ = cc in absurd no,
        λ h. let g : Some n ≡ None = h.1 refl in
            let no : ⊥ = cc in absurd no,
      )
      so (Some n) false = (λ _. (λ e. let no : ⊥ = cc in absurd no, λ e. let no : ⊥ = cc in absurd no), λ _. refl)

  -- A DISTRICT THAT IS NOT THERE

  no_orders : Meets r → (h : DistrictKey) → get r.districts h ≡ None → (k : OrderKey) (x : Order)
      → get r.orders k ≡ Some x → district_of_order k ≡ h → ⊥
  no_orders meets h none k x e s =
      let c = present_some (get r.customers (customer_of_order k x)) (meets.orders k x e) in
      missing (get r.districts (district_of_customer (customer_of_order k x)))
      (meets.customers (customer_of_order k x) c.0 c.1) (ap (get r.districts) s ∙ none)

  nothing_asked : Meets r → (h : DistrictKey) → get r.districts h ≡ None → model.lines_asked r h ≡ 0
  nothing_asked meets h none =
      sum-none order_total exact_order (λ k y. if_of h (district_of_order k) y.line_count) r.orders
      (λ k y e. zero k y e (key_cases district_total exact_district (district_of_order k) h))
    where
      zero : (k : OrderKey) (y : Order) → get r.orders k ≡ Some y
          → (district_of_order k ≡ h) ⊎ (eq_by_cmp district_cmp (district_of_order k) h ≡ false)
          → if_of h (district_of_order k) y.line_count ≡ 0
      zero k y e (inl s) = absurd (no_orders meets h none k y e s)
      zero k y e (inr t) = ap (λ b. cond b y.line_count 0) t

  nothing_there : Meets r → (h : DistrictKey) → get r.districts h ≡ None → model.lines_there r h ≡ 0
  nothing_there meets h none =
      sum-none order_line_total exact_order_line (λ l y. if_of h (district_of_order (order_of_line l)) 1) r.order_lines
      (λ l y e. zero l y e (key_cases district_total exact_district (district_of_order (order_of_line l)) h))
    where
      zero : (l : OrderLineKey) (y : OrderLine) → get r.order_lines l ≡ Some y
          → (district_of_order (order_of_line l) ≡ h)
          ⊎ (eq_by_cmp district_cmp (district_of_order (order_of_line l)) h ≡ false)
          → if_of h (district_of_order (order_of_line l)) 1 ≡ 0
      zero l y e (inl s) =
          let x = present_some (get r.orders (order_of_line l)) (meets.order_lines l y e).0 in
          absurd (no_orders meets h none (order_of_line l) x.0 x.1 s)
      zero l y e (inr t) = ap (λ b. cond b 1 0) t

  pub condition_4 : Meets r → FindsNothing (checks.condition_4 f.orders f.order_lines) ↔ model.Condition_4 r
  condition_4 meets = (
    λ c h there. (here h).0 (c (district_id h)),
    λ c j. back c (record {
      warehouse = j.warehouse;
      district = j.district;
    }),
  )
    where
      here : (h : DistrictKey) → (checks.condition_4 f.orders f.order_lines (district_id h) ≡ None)
          ↔ (model.lines_asked r h ≡ model.lines_there r h)
      here h =
          even_tied (figures.lines_asked f.orders (district_id h))
          (figures.lines_there f.order_lines (district_id h))
          (model.lines_asked r h) (model.lines_there r h) (asked_are h) (there_are h)

      either : (h : DistrictKey) → model.Condition_4 r → IsSome (get r.districts h) ⊎ (get r.districts h ≡ None)
          → model.lines_asked r h ≡ model.lines_there r h
      either h c (inl there) = c h there
      either h c (inr none) = nothing_asked meets h none ∙ sym (nothing_there meets h none)

      back : model.Condition_4 r → (h : DistrictKey) → checks.condition_4 f.orders f.order_lines (district_id h) ≡ None
      back c h = (here h).1 (either h c (present_or_absent (get r.districts h)))
