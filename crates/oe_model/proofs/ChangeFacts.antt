-- Each change is accepted or refused for a cause, and what is accepted keeps the schema.
use Rattle.std.proofs.Common.{◌≡◌, ℕ, zero, suc, refl, sym, ◌∙◌, ap, subst, true, false, List, [], ◌∷◌, Option, Some}
use Rattle.std.proofs.Common.{None, inl, inr, arith, length}
use Rattle.std.specs.Prelude.{◌≢◌, ◌⊎◌, ◌<◌, IsSome, is_some, option_map, slice_index_or}
use Rattle.std.specs.List.{Contains}
use Rattle.std.specs.declared.cmp.Ordering.{Ordering}
use Rattle.std.specs.Cmp.{IsTotalOrder, nat_cmp_total}
use Rattle.std.specs.Ordering.{eq_by_cmp}
use Rattle.std.specs.FinMap.{IsAntisymmetric, get, nat_cmp-IsAntisymmetric}
use Rattle.oe_rows.specs.declared.keys.Key.{Key}
use Rattle.oe_rows.specs.declared.keys.Key.TheVariants as key
use Rattle.oe_rows.specs.declared.rows.Row.{Row}
use Rattle.oe_rows.specs.declared.rows.Row.TheVariants as row
use Rattle.oe_rows.specs.declared.orders.Order.{Order}
use Rattle.oe_requests.specs.declared.refusals.Refusal.{Refusal}
use Rattle.oe_requests.specs.declared.refusals.Refusal.TheVariants.{NoSuchRow, RowExists, Reference, KeyColumn}
use Rattle.oe_rows.proofs.KeyFacts.{warehouse_total, exact_warehouse, district_total, exact_district, customer_total}
use Rattle.oe_rows.proofs.KeyFacts.{exact_customer, history_total, exact_history, new_order_total, exact_new_order}
use Rattle.oe_rows.proofs.KeyFacts.{order_total, exact_order, order_line_total, exact_order_line, stock_total}
use Rattle.oe_rows.proofs.KeyFacts.{exact_stock}
use Rattle.oe_model.specs.Keys.{warehouse_of_district, district_of_customer, customer_of_order, order_of_new_order}
use Rattle.oe_model.specs.Keys.{order_of_line, supply_of_line, warehouse_of_stock, item_of_stock, customer_in}
use Rattle.oe_model.specs.Keys.{district_of_order}
use Rattle.oe_model.specs.Rows.{Rows, row_at}
use Rattle.oe_model.specs.Changes.{Change, InsertHistory, InsertNewOrder, InsertOrder, InsertOrderLine, UpdateWarehouse}
use Rattle.oe_model.specs.Changes.{UpdateDistrict, UpdateCustomer, UpdateOrder, UpdateOrderLine, UpdateStock}
use Rattle.oe_model.specs.Changes.{DeleteNewOrder, key_of, rows_after}
use Rattle.oe_model.specs.Meets.{Meets, Accepts, Cause, is_insert, new_references}
use Rattle.oe_model.proofs.MapFacts.{is_self}
use Rattle.oe_model.proofs.PresenceFacts.{present_some, missing, present_or_absent, some-map, key_cases, each_row}
use Rattle.oe_model.proofs.PresenceFacts.{each_left, present_insert, present_before}

-- equality of texts and of numbers is decided
decided : {K : Type 0} {R : K → K → Ordering} → IsTotalOrder R → IsAntisymmetric R → (a b : K) → (a ≡ b) ⊎ (a ≢ b)
decided {R = R} o exact a b = go (key_cases o exact a b)
  where
    go : (a ≡ b) ⊎ (eq_by_cmp R a b ≡ false) → (a ≡ b) ⊎ (a ≢ b)
    go (inl e) = inl e
    go (inr n) = inr (λ e. let no : true ≡ false = sym (is_self o exact b) ∙ ap (λ z. eq_by_cmp R z b) (sym e) ∙ n in
        let z : ⊥ = cc in z)

first_of : {A : Type 0} (x : A) (xs : List A) → Contains (x ∷ xs) x
first_of x xs = (0, omega arith, refl)

second_of : {A : Type 0} (x y : A) (xs : List A) → Contains (x ∷ y ∷ xs) y
second_of x y xs = (1, omega arith, refl)

abbrev Judged : Change → Rows → Type 0
Judged c r = Accepts c r ⊎ ((e : Refusal) × Cause c r e)

-- what is there, or not, as a row of any table
module _ {A : Type 0} (c : A → Row) (o : Option A) where
  there : IsSome o → IsSome (option_map c o)
  there h = some-map c o ∙ h

  not_there : o ≡ None → option_map c o ≡ None
  not_there e = ap (option_map c) e

-- an insert that refers to one row, or to two
insert_one : {A B : Type 0} (P : Type 0) (d : Change) (r : Rows) (k j : Key) (a : Option A) (b : Option B)
    → (a ≡ None → IsSome b → P)
    → (IsSome a → Cause d r (RowExists k)) → (b ≡ None → Cause d r (Reference j)) → P ⊎ ((e : Refusal) × Cause d r e)
insert_one P d r k j a b ok exists refers = go (present_or_absent a) (present_or_absent b)
  where
    go : IsSome a ⊎ (a ≡ None) → IsSome b ⊎ (b ≡ None) → P ⊎ ((e : Refusal) × Cause d r e)
    go (inl h) _ = inr (RowExists k, exists h)
    go (inr h) (inl g) = inl (ok h g)
    go (inr h) (inr g) = inr (Reference j, refers g)

-- an update or a delete of a row that has to be there
update_one : {A : Type 0} (P : Type 0) (d : Change) (r : Rows) (k : Key) (a : Option A)
    → (a ≡ None → Cause d r (NoSuchRow k))
    → ((x : A) → a ≡ Some x → P ⊎ ((e : Refusal) × Cause d r e)) → P ⊎ ((e : Refusal) × Cause d r e)
update_one P d r k None absent ok = inr (NoSuchRow k, absent refl)
update_one P d r k (Some x) absent ok = ok x refl

pub judged : (c : Change) (r : Rows) → Judged c r
judged (InsertHistory k x) r =
    let d : Change = InsertHistory k x in
    pick (present_or_absent (get r.histories k)) (present_or_absent (get r.customers x.customer))
    (present_or_absent (get r.districts x.district))
  where
    pick : IsSome (get r.histories k) ⊎ (get r.histories k ≡ None) → IsSome (get r.customers x.customer)
        ⊎ (get r.customers x.customer ≡ None)
        → IsSome (get r.districts x.district) ⊎ (get r.districts x.district ≡ None) → Judged (InsertHistory k x) r
    pick (inl h) _ _ = inr (RowExists (key.History k), (refl, refl, there row.History (get r.histories k) h))
    pick (inr h) (inr g) _ =
        inr (
          Reference (key.Customer x.customer),
          (
            first_of (key.Customer x.customer) (key.District x.district ∷ []),
            not_there row.Customer
                (get r.customers x.customer) g,
          ),
        )
    pick (inr h) (inl g) (inr f) =
        inr (
          Reference (key.District x.district),
          (
            second_of (key.Customer x.customer) (key.District x.district) [],
            not_there row.District
                (get r.districts x.district) f,
          ),
        )
    pick (inr h) (inl g) (inl f) = inl (h, g, f)
judged (InsertNewOrder k x) r =
    insert_one (Accepts (InsertNewOrder k x) r) (InsertNewOrder k x) r (key.NewOrder k)
    (key.Order (order_of_new_order k)) (get r.new_orders k) (get r.orders (order_of_new_order k)) (λ h g. (h, g))
    (λ h. (refl, refl, there row.NewOrder (get r.new_orders k) h))
    (λ g. (
      first_of (key.Order (order_of_new_order k)) [],
      not_there row.Order (get r.orders (order_of_new_order k))
          g,
    ))
judged (InsertOrder k x) r =
    insert_one (Accepts (InsertOrder k x) r) (InsertOrder k x) r (key.Order k) (key.Customer (customer_of_order k x))
    (get r.orders k) (get r.customers (customer_of_order k x)) (λ h g. (h, g))
    (λ h. (refl, refl, there row.Order (get r.orders k) h))
    (λ g. (
      first_of (key.Customer (customer_of_order k x)) [],
      not_there row.Customer
          (get r.customers (customer_of_order k x)) g,
    ))
judged (InsertOrderLine k x) r = pick (present_or_absent (get r.order_lines k))
    (present_or_absent (get r.orders (order_of_line k))) (present_or_absent (get r.stocks (supply_of_line x)))
  where
    pick : IsSome (get r.order_lines k) ⊎ (get r.order_lines k ≡ None)
        → IsSome (get r.orders (order_of_line k)) ⊎ (get r.orders (order_of_line k) ≡ None)
        → IsSome (get r.stocks (supply_of_line x)) ⊎ (get r.stocks (supply_of_line x) ≡ None)
        → Judged (InsertOrderLine k x) r
    pick (inl h) _ _ = inr (RowExists (key.OrderLine k), (refl, refl, there row.OrderLine (get r.order_lines k) h))
    pick (inr h) (inr g) _ =
        inr (
          Reference (key.Order (order_of_line k)),
          (
            first_of (key.Order (order_of_line k)) (key.Stock (supply_of_line x) ∷ []),
            not_there row.Order
                (get r.orders (order_of_line k)) g,
          ),
        )
    pick (inr h) (inl g) (inr f) =
        inr (
          Reference (key.Stock (supply_of_line x)),
          (
            second_of (key.Order (order_of_line k)) (key.Stock (supply_of_line x)) [],
            not_there row.Stock
                (get r.stocks (supply_of_line x)) f,
          ),
        )
    pick (inr h) (inl g) (inl f) = inl (h, g, f)
judged (UpdateWarehouse k x) r =
    update_one (Accepts (UpdateWarehouse k x) r) (UpdateWarehouse k x) r (key.Warehouse k) (get r.warehouses k)
    (λ e. (refl, refl, not_there row.Warehouse (get r.warehouses k) e)) (λ y e. inl (ap is_some e))
judged (UpdateDistrict k x) r =
    update_one (Accepts (UpdateDistrict k x) r) (UpdateDistrict k x) r (key.District k) (get r.districts k)
    (λ e. (refl, refl, not_there row.District (get r.districts k) e)) (λ y e. inl (ap is_some e))
judged (UpdateCustomer k x) r =
    update_one (Accepts (UpdateCustomer k x) r) (UpdateCustomer k x) r (key.Customer k) (get r.customers k)
    (λ e. (refl, refl, not_there row.Customer (get r.customers k) e)) (λ y e. inl (ap is_some e))
judged (UpdateOrder k x) r =
    update_one (Accepts (UpdateOrder k x) r) (UpdateOrder k x) r (key.Order k) (get r.orders k)
    (λ e. (refl, refl, not_there row.Order (get r.orders k) e))
    (λ y e. pick y e (decided nat_cmp_total nat_cmp-IsAntisymmetric x.customer y.customer))
  where
    pick : (y : Order) → get r.orders k ≡ Some y → (x.customer ≡ y.customer) ⊎ (x.customer ≢ y.customer)
        → Judged (UpdateOrder k x) r
    pick y e (inl s) = inl (y, e, s)
    pick y e (inr n) = inr (KeyColumn, (y, e, n))
judged (UpdateOrderLine k x) r =
    update_one (Accepts (UpdateOrderLine k x) r) (UpdateOrderLine k x) r (key.OrderLine k) (get r.order_lines k)
    (λ e. (refl, refl, not_there row.OrderLine (get r.order_lines k) e))
    (λ y e. pick (ap is_some e) (present_or_absent (get r.stocks (supply_of_line x))))
  where
    pick : IsSome (get r.order_lines k) → IsSome (get r.stocks (supply_of_line x))
        ⊎ (get r.stocks (supply_of_line x) ≡ None) → Judged (UpdateOrderLine k x) r
    pick h (inl g) = inl (h, g)
    pick h (inr g) = inr (
      Reference (key.Stock (supply_of_line x)),
      (first_of (key.Stock (supply_of_line x)) [], not_there row.Stock (get r.stocks (supply_of_line x)) g),
    )
judged (UpdateStock k x) r =
    update_one (Accepts (UpdateStock k x) r) (UpdateStock k x) r (key.Stock k) (get r.stocks k)
    (λ e. (refl, refl, not_there row.Stock (get r.stocks k) e)) (λ y e. inl (ap is_some e))
judged (DeleteNewOrder k) r =
    update_one (Accepts (DeleteNewOrder k) r) (DeleteNewOrder k) r (key.NewOrder k) (get r.new_orders k)
    (λ e. (refl, refl, not_there row.NewOrder (get r.new_orders k) e)) (λ y e. inl (ap is_some e))

-- what an accepted change finds at its key, and at those that it refers to
found_there : (c : Change) (r : Rows) → Accepts c r → is_insert c ≡ false → IsSome (row_at r (key_of c))
found_there (InsertHistory k x) r a e = let no : ⊥ = cc in absurd no
found_there (InsertNewOrder k x) r a e = let no : ⊥ = cc in absurd no
found_there (InsertOrder k x) r a e = let no : ⊥ = cc in absurd no
found_there (InsertOrderLine k x) r a e = let no : ⊥ = cc in absurd no
found_there (UpdateWarehouse k x) r a e = there row.Warehouse (get r.warehouses k) a
found_there (UpdateDistrict k x) r a e = there row.District (get r.districts k) a
found_there (UpdateCustomer k x) r a e = there row.Customer (get r.customers k) a
found_there (UpdateOrder k x) r a e = there row.Order (get r.orders k) (ap is_some a.1)
found_there (UpdateOrderLine k x) r a e = there row.OrderLine (get r.order_lines k) a.0
found_there (UpdateStock k x) r a e = there row.Stock (get r.stocks k) a
found_there (DeleteNewOrder k) r a e = there row.NewOrder (get r.new_orders k) a

found_absent : (c : Change) (r : Rows) → Accepts c r → is_insert c ≡ true → row_at r (key_of c) ≡ None
found_absent (InsertHistory k x) r a e = not_there row.History (get r.histories k) a.0
found_absent (InsertNewOrder k x) r a e = not_there row.NewOrder (get r.new_orders k) a.0
found_absent (InsertOrder k x) r a e = not_there row.Order (get r.orders k) a.0
found_absent (InsertOrderLine k x) r a e = not_there row.OrderLine (get r.order_lines k) a.0
found_absent (UpdateWarehouse k x) r a e = let no : ⊥ = cc in absurd no
found_absent (UpdateDistrict k x) r a e = let no : ⊥ = cc in absurd no
found_absent (UpdateCustomer k x) r a e = let no : ⊥ = cc in absurd no
found_absent (UpdateOrder k x) r a e = let no : ⊥ = cc in absurd no
found_absent (UpdateOrderLine k x) r a e = let no : ⊥ = cc in absurd no
found_absent (UpdateStock k x) r a e = let no : ⊥ = cc in absurd no
found_absent (DeleteNewOrder k) r a e = let no : ⊥ = cc in absurd no

abbrev AllThere : Rows → List Key → Type 0
AllThere r [] = Unit {0}
AllThere r (k ∷ ks) = IsSome (row_at r k) × AllThere r ks

found_referred : (c : Change) (r : Rows) → Accepts c r → AllThere r (new_references c)
found_referred (InsertHistory k x) r a =
    (there row.Customer (get r.customers x.customer) a.1, (there row.District (get r.districts x.district) a.2, tt))
found_referred (InsertNewOrder k x) r a = (there row.Order (get r.orders (order_of_new_order k)) a.1, tt)
found_referred (InsertOrder k x) r a = (there row.Customer (get r.customers (customer_of_order k x)) a.1, tt)
found_referred (InsertOrderLine k x) r a =
    (there row.Order (get r.orders (order_of_line k)) a.1, (there row.Stock (get r.stocks (supply_of_line x)) a.2, tt))
found_referred (UpdateOrderLine k x) r a = (there row.Stock (get r.stocks (supply_of_line x)) a.1, tt)
found_referred (UpdateWarehouse k x) r a = tt
found_referred (UpdateDistrict k x) r a = tt
found_referred (UpdateCustomer k x) r a = tt
found_referred (UpdateOrder k x) r a = tt
found_referred (UpdateStock k x) r a = tt
found_referred (DeleteNewOrder k) r a = tt

-- a key of the list is there
listed_there : (r : Rows) (ks : List Key) (k : Key) (i : ℕ) → AllThere r ks → i < length ks → slice_index_or ks i k ≡ k
    → IsSome (row_at r k)
listed_there r [] k i all h e = absurd (let no : ⊥ = omega arith in no)
listed_there r (j ∷ ks) k zero all h e = subst (λ (z : Key). IsSome (row_at r z)) e all.0
listed_there r (j ∷ ks) k (suc i) all h e = listed_there r ks k i all.1 (omega arith) e

keeps_columns : (c : Change) (r : Rows) → Accepts c r → Cause c r KeyColumn → ⊥
keeps_columns (UpdateOrder k x) r a c =
    let h : Some a.0 ≡ Some c.0 = sym a.1 ∙ c.1 in
    let same : a.0 ≡ c.0 = cc in
    c.2 (a.2 ∙ ap (λ (y : Order). y.customer) same)
keeps_columns (UpdateCustomer k x) r a c = c
keeps_columns (InsertHistory k x) r a c = c
keeps_columns (InsertNewOrder k x) r a c = c
keeps_columns (InsertOrder k x) r a c = c
keeps_columns (InsertOrderLine k x) r a c = c
keeps_columns (UpdateWarehouse k x) r a c = c
keeps_columns (UpdateDistrict k x) r a c = c
keeps_columns (UpdateOrderLine k x) r a c = c
keeps_columns (UpdateStock k x) r a c = c
keeps_columns (DeleteNewOrder k) r a c = c

pub not_both : (c : Change) (r : Rows) (e : Refusal) → Accepts c r → Cause c r e → ⊥
not_both c r (NoSuchRow k) a h = missing (row_at r (key_of c)) (found_there c r a h.1) (ap (row_at r) (sym h.0) ∙ h.2)
not_both c r (RowExists k) a h = missing (row_at r k) h.2 (ap (row_at r) h.0 ∙ found_absent c r a h.1)
not_both c r (Reference k) a h = missing (row_at r k)
    (listed_there r (new_references c) k h.0.0 (found_referred c r a) h.0.1 h.0.2) h.1
not_both c r KeyColumn a h = keeps_columns c r a h
not_both c r _ a h = h

pub accepted_meets : (c : Change) (r : Rows) → Accepts c r → Meets r → Meets (rows_after c r)
accepted_meets (InsertHistory k x) r a m = record {
  histories = each_row history_total exact_history
      (λ j y. IsSome (get r.customers y.customer) × IsSome (get r.districts y.district)) r.histories k x (a.1, a.2)
      m.histories;
  districts = m.districts;
  customers = m.customers;
  new_orders = m.new_orders;
  orders = m.orders;
  order_lines = m.order_lines;
  stocks = m.stocks;
  ten_districts = m.ten_districts;
}
accepted_meets (InsertNewOrder k x) r a m = record {
  new_orders = each_row new_order_total exact_new_order (λ j y. IsSome (get r.orders (order_of_new_order j)))
      r.new_orders k x a.1 m.new_orders;
  districts = m.districts;
  customers = m.customers;
  histories = m.histories;
  orders = m.orders;
  order_lines = m.order_lines;
  stocks = m.stocks;
  ten_districts = m.ten_districts;
}
accepted_meets (InsertOrder k x) r a m = record {
  orders = each_row order_total exact_order (λ j y. IsSome (get r.customers (customer_of_order j y))) r.orders k x a.1
      m.orders;
  new_orders = λ j y e. present_insert order_total exact_order r.orders k x (order_of_new_order j) (m.new_orders j y e);
  order_lines = λ j y e. let h = m.order_lines j y e in
      (present_insert order_total exact_order r.orders k x (order_of_line j) h.0, h.1);
  districts = m.districts;
  customers = m.customers;
  histories = m.histories;
  stocks = m.stocks;
  ten_districts = m.ten_districts;
}
accepted_meets (InsertOrderLine k x) r a m = record {
  order_lines = each_row order_line_total exact_order_line
      (λ j y. IsSome (get r.orders (order_of_line j)) × IsSome (get r.stocks (supply_of_line y))) r.order_lines k x
      (a.1, a.2) m.order_lines;
  districts = m.districts;
  customers = m.customers;
  histories = m.histories;
  new_orders = m.new_orders;
  orders = m.orders;
  stocks = m.stocks;
  ten_districts = m.ten_districts;
}
accepted_meets (UpdateWarehouse k x) r a m = record {
  districts = λ j y e. present_insert warehouse_total exact_warehouse r.warehouses k x (warehouse_of_district j)
      (m.districts j y e);
  stocks = λ j y e. let h = m.stocks j y e in
      (present_insert warehouse_total exact_warehouse r.warehouses k x (warehouse_of_stock j) h.0, h.1);
  ten_districts = λ j w. m.ten_districts j
      (present_before warehouse_total exact_warehouse r.warehouses k x (warehouse_of_district j) a w);
  customers = m.customers;
  histories = m.histories;
  new_orders = m.new_orders;
  orders = m.orders;
  order_lines = m.order_lines;
}
accepted_meets (UpdateDistrict k x) r a m =
    let old = present_some (get r.districts k) a in
    record {
      districts = each_row district_total exact_district (λ j y. IsSome (get r.warehouses (warehouse_of_district j)))
          r.districts k x (m.districts k old.0 old.1) m.districts;
      customers = λ j y e. present_insert district_total exact_district r.districts k x (district_of_customer j)
          (m.customers j y e);
      histories = λ j y e. let h = m.histories j y e in
          (h.0, present_insert district_total exact_district r.districts k x y.district h.1);
      ten_districts = λ j w low high. present_insert district_total exact_district r.districts k x j
          (m.ten_districts j w low high);
      new_orders = m.new_orders;
      orders = m.orders;
      order_lines = m.order_lines;
      stocks = m.stocks;
    }
accepted_meets (UpdateCustomer k x) r a m = let old = present_some (get r.customers k) a in record {
  customers = each_row customer_total exact_customer (λ j y. IsSome (get r.districts (district_of_customer j)))
      r.customers k x (m.customers k old.0 old.1) m.customers;
  histories = λ j y e. let h = m.histories j y e in
      (present_insert customer_total exact_customer r.customers k x y.customer h.0, h.1);
  orders = λ j y e. present_insert customer_total exact_customer r.customers k x (customer_of_order j y)
      (m.orders j y e);
  districts = m.districts;
  new_orders = m.new_orders;
  order_lines = m.order_lines;
  stocks = m.stocks;
  ten_districts = m.ten_districts;
}
accepted_meets (UpdateOrder k x) r a m = record {
  orders = each_row order_total exact_order (λ j y. IsSome (get r.customers (customer_of_order j y))) r.orders k x
      (subst (λ (c : ℕ). IsSome (get r.customers (customer_in (district_of_order k) c))) (sym a.2) (m.orders k a.0 a.1))
      m.orders;
  new_orders = λ j y e. present_insert order_total exact_order r.orders k x (order_of_new_order j) (m.new_orders j y e);
  order_lines = λ j y e. let h = m.order_lines j y e in
      (present_insert order_total exact_order r.orders k x (order_of_line j) h.0, h.1);
  districts = m.districts;
  customers = m.customers;
  histories = m.histories;
  stocks = m.stocks;
  ten_districts = m.ten_districts;
}
accepted_meets (UpdateOrderLine k x) r a m =
    let old = present_some (get r.order_lines k) a.0 in
    record {
      order_lines = each_row order_line_total exact_order_line
          (λ j y. IsSome (get r.orders (order_of_line j)) × IsSome (get r.stocks (supply_of_line y))) r.order_lines k x
          ((m.order_lines k old.0 old.1).0, a.1) m.order_lines;
      districts = m.districts;
      customers = m.customers;
      histories = m.histories;
      new_orders = m.new_orders;
      orders = m.orders;
      stocks = m.stocks;
      ten_districts = m.ten_districts;
    }
accepted_meets (UpdateStock k x) r a m =
    let old = present_some (get r.stocks k) a in
    record {
      stocks = each_row stock_total exact_stock
          (λ j y. IsSome (get r.warehouses (warehouse_of_stock j)) × IsSome (get r.items (item_of_stock j))) r.stocks k
          x (m.stocks k old.0 old.1) m.stocks;
      order_lines = λ j y e. let h = m.order_lines j y e in
          (h.0, present_insert stock_total exact_stock r.stocks k x (supply_of_line y) h.1);
      districts = m.districts;
      customers = m.customers;
      histories = m.histories;
      new_orders = m.new_orders;
      orders = m.orders;
      ten_districts = m.ten_districts;
    }
accepted_meets (DeleteNewOrder k) r a m = record {
  new_orders = each_left new_order_total exact_new_order (λ j y. IsSome (get r.orders (order_of_new_order j)))
      r.new_orders k m.new_orders;
  districts = m.districts;
  customers = m.customers;
  histories = m.histories;
  orders = m.orders;
  order_lines = m.order_lines;
  stocks = m.stocks;
  ten_districts = m.ten_districts;
}
