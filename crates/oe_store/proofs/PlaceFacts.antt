-- Which keys have places after a change of one place.
use Rattle.std.proofs.Common.{◌≡◌, refl, sym, ◌∙◌, ap, subst, Bool, true, false, cond, List, Option, Some, None, inl}
use Rattle.std.proofs.Common.{inr}
use Rattle.std.specs.Prelude.{◌↔◌, ◌⊎◌, IsSome, is_some}
use Rattle.std.specs.Ordering.{is_eq}
use Rattle.std.specs.declared.cmp.Ordering.{Ordering}
use Rattle.std.specs.Cmp.{IsTotalOrder, eq_by_cmp_equiv}
use Rattle.std.specs.FinMap.{IsAntisymmetric, get}
use Rattle.oe_rows.specs.Key.{warehouse_cmp, district_cmp, customer_cmp, history_cmp, new_order_cmp, order_cmp}
use Rattle.oe_rows.specs.Key.{order_line_cmp, stock_cmp}
use Rattle.oe_rows.specs.declared.keys.WarehouseKey.{WarehouseKey}
use Rattle.oe_rows.specs.declared.keys.DistrictKey.{DistrictKey}
use Rattle.oe_rows.specs.declared.keys.CustomerKey.{CustomerKey}
use Rattle.oe_rows.specs.declared.keys.HistoryKey.{HistoryKey}
use Rattle.oe_rows.specs.declared.keys.NewOrderKey.{NewOrderKey}
use Rattle.oe_rows.specs.declared.keys.OrderKey.{OrderKey}
use Rattle.oe_rows.specs.declared.keys.OrderLineKey.{OrderLineKey}
use Rattle.oe_rows.specs.declared.keys.StockKey.{StockKey}
use Rattle.oe_rows.specs.declared.keys.Key.TheVariants as key
use Rattle.oe_rows.specs.declared.warehouses.Warehouse.{Warehouse}
use Rattle.oe_rows.specs.declared.districts.District.{District}
use Rattle.oe_rows.specs.declared.customers.Customer.{Customer}
use Rattle.oe_rows.specs.declared.histories.History.{History}
use Rattle.oe_rows.specs.declared.orders.NewOrder.{NewOrder}
use Rattle.oe_rows.specs.declared.orders.Order.{Order}
use Rattle.oe_rows.specs.declared.orders.OrderLine.{OrderLine}
use Rattle.oe_rows.specs.declared.items.Stock.{Stock}
use Rattle.oe_rows.proofs.KeyFacts.{warehouse_total, exact_warehouse, district_total, exact_district, customer_total}
use Rattle.oe_rows.proofs.KeyFacts.{exact_customer, history_total, exact_history, new_order_total, exact_new_order}
use Rattle.oe_rows.proofs.KeyFacts.{order_total, exact_order, order_line_total, exact_order_line, stock_total}
use Rattle.oe_rows.proofs.KeyFacts.{exact_stock}
use Rattle.oe_table.specs.Table.{place, rows_of, SetsPlace, IsBlanked}
use Rattle.oe_table.proofs.TableFacts.{row_in, get-rows_of, tied}
use Rattle.oe_store.specs.Places.{Places, SamePlaces, AddsPlace}

row_has_place : {R : Type 0} (p : Option (Option R)) → IsSome (row_in p) → IsSome p
row_has_place None h = h
row_has_place (Some p) h = refl

blanked_place : {R : Type 0} (p : Option (Option R)) → IsSome p → row_in p ≡ None → p ≡ Some None
blanked_place None h e = cc
blanked_place (Some p) h e = ap Some e

module _ {K R : Type 0} {cmp : K → K → Ordering} (total : IsTotalOrder cmp) (exact : IsAntisymmetric cmp) where
  -- a key with a row has a place, and one with a place and no row was blanked
  pub place_of_row : (t : List (K × Option R)) (k : K) → IsSome (get (rows_of cmp t) k) → IsSome (place cmp t k)
  place_of_row t k h = row_has_place (place cmp t k) (subst IsSome (get-rows_of total t k) h)

  pub blanked_without_row : (t : List (K × Option R)) (k : K) → IsSome (place cmp t k) → get (rows_of cmp t) k ≡ None
      → IsBlanked cmp t k
  blanked_without_row t k h e = blanked_place (place cmp t k) h (sym (get-rows_of total t k) ∙ e)

  set_cases : (b : Bool) (p : Option R) (old new : Option (Option R)) → new ≡ cond b (Some p) old → IsSome new
      → (b ≡ true) ⊎ IsSome old
  set_cases true p old new e h = inl refl
  set_cases false p old new e h = inr (subst IsSome e h)

  still : (b : Bool) (p : Option R) (old new : Option (Option R)) → new ≡ cond b (Some p) old → IsSome old → IsSome new
  still true p old new e h = subst IsSome (sym e) refl
  still false p old new e h = subst IsSome (sym e) h

  -- a place that is set is one more, or one of those before
  one_more : (old new : List (K × Option R)) (k : K) (p : Option R) → SetsPlace cmp old new k p → (q : K)
      → IsSome (place cmp new q) ↔ (IsSome (place cmp old q) ⊎ (q ≡ k))
  one_more old new k p set q = (to, from)
    where
      to : IsSome (place cmp new q) → IsSome (place cmp old q) ⊎ (q ≡ k)
      to h = elim (set_cases (is_eq (cmp k q)) p (place cmp old q) (place cmp new q) (set q) h)
          [ inl e ↦ inr (sym (exact k q (tied (cmp k q) e))) | inr g ↦ inl g ]

      from : IsSome (place cmp old q) ⊎ (q ≡ k) → IsSome (place cmp new q)
      from (inl h) = still (is_eq (cmp k q)) p (place cmp old q) (place cmp new q) (set q) h
      from (inr e) = subst (λ (j : K). IsSome (place cmp new j)) (sym e)
          (ap is_some (set k ∙ ap (λ b. cond b (Some p) (place cmp old k)) ((eq_by_cmp_equiv total).refl k)))

  same : (old new : List (K × Option R)) (k : K) (p : Option R) → SetsPlace cmp old new k p → IsSome (place cmp old k)
      → (q : K) → IsSome (place cmp new q) ↔ IsSome (place cmp old q)
  same old new k p set had q = (to, λ h. (one_more old new k p set q).1 (inl h))
    where
      to : IsSome (place cmp new q) → IsSome (place cmp old q)
      to h = elim ((one_more old new k p set q).0 h)
          [ inl g ↦ g | inr e ↦ subst (λ (j : K). IsSome (place cmp old j)) (sym e) had ]

-- the same of all tables, where one table's places are the same or one more
pub same_warehouses : (s : Places) (new : List (WarehouseKey × Option Warehouse)) (k : WarehouseKey)
    (p : Option Warehouse) → SetsPlace warehouse_cmp s.warehouses new k p → IsSome (place warehouse_cmp s.warehouses k)
    → SamePlaces s (record s { warehouses = new })
same_warehouses s new k p set had (key.Warehouse q) = same warehouse_total exact_warehouse s.warehouses new k p set had
    q
same_warehouses s new k p set had _ = (λ h. h, λ h. h)

pub same_districts : (s : Places) (new : List (DistrictKey × Option District)) (k : DistrictKey) (p : Option District)
    → SetsPlace district_cmp s.districts new k p → IsSome (place district_cmp s.districts k)
    → SamePlaces s (record s { districts = new })
same_districts s new k p set had (key.District q) = same district_total exact_district s.districts new k p set had q
same_districts s new k p set had _ = (λ h. h, λ h. h)

pub same_customers : (s : Places) (new : List (CustomerKey × Option Customer)) (k : CustomerKey) (p : Option Customer)
    → SetsPlace customer_cmp s.customers new k p → IsSome (place customer_cmp s.customers k)
    → SamePlaces s (record s { customers = new })
same_customers s new k p set had (key.Customer q) = same customer_total exact_customer s.customers new k p set had q
same_customers s new k p set had _ = (λ h. h, λ h. h)

pub same_histories : (s : Places) (new : List (HistoryKey × Option History)) (k : HistoryKey) (p : Option History)
    → SetsPlace history_cmp s.histories new k p → IsSome (place history_cmp s.histories k)
    → SamePlaces s (record s { histories = new })
same_histories s new k p set had (key.History q) = same history_total exact_history s.histories new k p set had q
same_histories s new k p set had _ = (λ h. h, λ h. h)

pub same_new_orders : (s : Places) (new : List (NewOrderKey × Option NewOrder)) (k : NewOrderKey) (p : Option NewOrder)
    → SetsPlace new_order_cmp s.new_orders new k p → IsSome (place new_order_cmp s.new_orders k)
    → SamePlaces s (record s { new_orders = new })
same_new_orders s new k p set had (key.NewOrder q) = same new_order_total exact_new_order s.new_orders new k p set had q
same_new_orders s new k p set had _ = (λ h. h, λ h. h)

pub same_orders : (s : Places) (new : List (OrderKey × Option Order)) (k : OrderKey) (p : Option Order)
    → SetsPlace order_cmp s.orders new k p → IsSome (place order_cmp s.orders k)
    → SamePlaces s (record s { orders = new })
same_orders s new k p set had (key.Order q) = same order_total exact_order s.orders new k p set had q
same_orders s new k p set had _ = (λ h. h, λ h. h)

pub same_order_lines : (s : Places) (new : List (OrderLineKey × Option OrderLine)) (k : OrderLineKey)
    (p : Option OrderLine) → SetsPlace order_line_cmp s.order_lines new k p
    → IsSome (place order_line_cmp s.order_lines k) → SamePlaces s (record s { order_lines = new })
same_order_lines s new k p set had (key.OrderLine q) = same order_line_total exact_order_line s.order_lines new k p set
    had q
same_order_lines s new k p set had _ = (λ h. h, λ h. h)

pub same_stocks : (s : Places) (new : List (StockKey × Option Stock)) (k : StockKey) (p : Option Stock)
    → SetsPlace stock_cmp s.stocks new k p → IsSome (place stock_cmp s.stocks k)
    → SamePlaces s (record s { stocks = new })
same_stocks s new k p set had (key.Stock q) = same stock_total exact_stock s.stocks new k p set had q
same_stocks s new k p set had _ = (λ h. h, λ h. h)

pub added_history : (s : Places) (new : List (HistoryKey × Option History)) (k : HistoryKey) (p : Option History)
    → SetsPlace history_cmp s.histories new k p → AddsPlace s (record s { histories = new }) (key.History k)
added_history s new k p set (key.History q) =
    let more = one_more history_total exact_history s.histories new k p set q in (
      λ h. elim (more.0 h) [ inl g ↦ inl g | inr e ↦ inr (ap key.History e) ],
      λ h. elim h
          [ inl g ↦ more.1 (inl g) | inr e ↦ more.1 (inr (let i : q ≡ k = cc in i)) ],
    )
added_history s new k p set _ = (λ h. inl h, λ h. elim h [ inl g ↦ g | inr e ↦ absurd (let no : ⊥ = cc in no) ])

pub added_new_order : (s : Places) (new : List (NewOrderKey × Option NewOrder)) (k : NewOrderKey) (p : Option NewOrder)
    → SetsPlace new_order_cmp s.new_orders new k p → AddsPlace s (record s { new_orders = new }) (key.NewOrder k)
added_new_order s new k p set (key.NewOrder q) =
    let more = one_more new_order_total exact_new_order s.new_orders new k p set q in (
      λ h. elim (more.0 h) [ inl g ↦ inl g | inr e ↦ inr (ap key.NewOrder e) ],
      λ h. elim h
          [ inl g ↦ more.1 (inl g) | inr e ↦ more.1 (inr (let i : q ≡ k = cc in i)) ],
    )
added_new_order s new k p set _ = (λ h. inl h, λ h. elim h [ inl g ↦ g | inr e ↦ absurd (let no : ⊥ = cc in no) ])

pub added_order : (s : Places) (new : List (OrderKey × Option Order)) (k : OrderKey) (p : Option Order)
    → SetsPlace order_cmp s.orders new k p → AddsPlace s (record s { orders = new }) (key.Order k)
added_order s new k p set (key.Order q) =
    let more = one_more order_total exact_order s.orders new k p set q in (
      λ h. elim (more.0 h) [ inl g ↦ inl g | inr e ↦ inr (ap key.Order e) ],
      λ h. elim h
          [ inl g ↦ more.1 (inl g) | inr e ↦ more.1 (inr (let i : q ≡ k = cc in i)) ],
    )
added_order s new k p set _ = (λ h. inl h, λ h. elim h [ inl g ↦ g | inr e ↦ absurd (let no : ⊥ = cc in no) ])

pub added_order_line : (s : Places) (new : List (OrderLineKey × Option OrderLine)) (k : OrderLineKey)
    (p : Option OrderLine) → SetsPlace order_line_cmp s.order_lines new k p
    → AddsPlace s (record s { order_lines = new }) (key.OrderLine k)
added_order_line s new k p set (key.OrderLine q) =
    let more = one_more order_line_total exact_order_line s.order_lines new k p set q in (
      λ h. elim (more.0 h) [ inl g ↦ inl g | inr e ↦ inr (ap key.OrderLine e) ],
      λ h. elim h
          [ inl g ↦ more.1 (inl g) | inr e ↦ more.1 (inr (let i : q ≡ k = cc in i)) ],
    )
added_order_line s new k p set _ = (λ h. inl h, λ h. elim h [ inl g ↦ g | inr e ↦ absurd (let no : ⊥ = cc in no) ])
