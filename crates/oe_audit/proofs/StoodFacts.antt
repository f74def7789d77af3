-- The rows as they stood are at the keys of rows that stand.
use Rattle.std.proofs.Common.{◌≡◌, refl, sym, ◌∙◌, ap, subst, Bool, true, false, cond, List, [], ◌∷◌, map, length}
use Rattle.std.proofs.Common.{Option, Some, None}
use Rattle.std.specs.Prelude.{T, ◌&&◌, IsSome, is_some, sum_by}
use Rattle.std.specs.declared.cmp.Ordering.{Ordering}
use Rattle.std.specs.Cmp.{IsTotalOrder}
use Rattle.std.specs.Ordering.{eq_by_cmp, is_lt}
use Rattle.std.specs.FinMap.{FinMap, IsAntisymmetric, get, entries, entries_sorted, get-entries, retain_keys}
use Rattle.std.specs.FinMap.{get-retain_keys}
use Rattle.std.specs.FinMap.Entries.{find, is_sorted, below_all}
use Rattle.oe_rows.specs.Key.{warehouse_cmp, district_cmp, order_cmp, new_order_cmp}
use Rattle.oe_rows.specs.declared.keys.WarehouseKey.{WarehouseKey}
use Rattle.oe_rows.specs.declared.keys.DistrictKey.{DistrictKey}
use Rattle.oe_rows.specs.declared.keys.OrderKey.{OrderKey}
use Rattle.oe_rows.specs.declared.keys.NewOrderKey.{NewOrderKey}
use Rattle.oe_rows.proofs.KeyFacts.{warehouse_total, exact_warehouse, district_total, exact_district, order_total}
use Rattle.oe_rows.proofs.KeyFacts.{exact_order, order_line_total, exact_order_line, new_order_total, exact_new_order}
use Rattle.oe_rows.proofs.KeyFacts.{customer_total, exact_customer}
use Rattle.oe_rows.specs.declared.districts.District.{District}
use Rattle.oe_rows.specs.declared.orders.Order.{Order}
use Rattle.oe_model.specs.Keys.{warehouse_of_district, district_of_order, district_of_new_order, order_of_line}
use Rattle.oe_model.specs.Keys.{order_of_new_order}
use Rattle.oe_model.specs.Rows.{Rows}
use Rattle.oe_model.specs.Conditions.{ytd_of, lines_asked, lines_there}
use Rattle.oe_model.specs.FurtherConditions.{lines_of_order}
use Rattle.oe_store.specs.Places.{entries_of}
use Rattle.oe_rows_of.proofs.ChosenFacts.{rows_at, kept_is, kept_among, all_is}
use Rattle.oe_audit.specs.Walks.{entries_then}
use Rattle.oe_rows_of.specs.Then.{ArePassed, AreNow}
use Rattle.oe_model.proofs.GroupFacts.{sum_of_group}
use Rattle.oe_audit.proofs.DistrictFacts.{asked_is, there_is, ones}

-- the key of an order among those not yet delivered
abbrev pub new_order_of : OrderKey → NewOrderKey
new_order_of k = record { warehouse = k.warehouse; district = k.district; order = k.order }

abbrev pub as_new : List (OrderKey × Order) → List (NewOrderKey × Order)
as_new es = map (λ e. (new_order_of e.0, e.1)) es

below_same : (k : OrderKey) (es : List (OrderKey × Order))
    → below_all new_order_cmp (new_order_of k) (as_new es) ≡ below_all order_cmp k es
below_same k [] = refl
below_same k (e ∷ es) = ap (λ b. is_lt (order_cmp k e.0) && b) (below_same k es)

sorted_same : (es : List (OrderKey × Order)) → is_sorted new_order_cmp (as_new es) ≡ is_sorted order_cmp es
sorted_same [] = refl
sorted_same (e ∷ es) = λ i. below_same e.0 es i && sorted_same es i

find_same : (q : NewOrderKey) (es : List (OrderKey × Order))
    → find new_order_cmp q (as_new es) ≡ find order_cmp (order_of_new_order q) es
find_same q [] = refl
find_same q (e ∷ es) = ap (λ v. cond (eq_by_cmp order_cmp (order_of_new_order q) e.0) (Some e.1) v) (find_same q es)

chosen : {A : Type 0} (b : Bool) (v : Option A) → IsSome (cond b v None) → b ≡ true
chosen true v h = refl
chosen false v h = h

stood_now : {K X : Type 0} {R : K → K → Ordering} (m : FinMap R X) (es : List (K × X)) → entries_then true m es ≡ es
stood_now m [] = refl
stood_now m (e ∷ es) = ap (λ xs. (e.0, e.1) ∷ xs) (stood_now m es)

-- the rows of then are what the keys of the rows that stand had
module _ {K X : Type 0} {R : K → K → Ordering} (total : IsTotalOrder R) (exact : IsAntisymmetric R)
    (of : Rows → FinMap R X) (now past : Rows) where
  pub all_stood : (w : Bool) → AreNow w past now
      → ((q : K) → IsSome (get (of past) q) → IsSome (get (of now) q))
      → entries (of past) ≡ entries_then w (of past) (entries (of now))
  all_stood true same has = ap (λ (r : Rows). entries (of r)) same ∙ sym (stood_now (of past) (entries (of now)))
  all_stood false same has = all_is (of past) total exact (of now) has

  pub kept_stood : (w : Bool) → AreNow w past now → (p : K → Bool)
      → ((q : K) → IsSome (get (of past) q) → IsSome (get (of now) q))
      → entries (retain_keys (of past) p) ≡ entries_then w (of past) (entries (retain_keys (of now) p))
  kept_stood true same p has =
      ap (λ (r : Rows). entries (retain_keys (of r) p)) same
      ∙ sym (stood_now (of past) (entries (retain_keys (of now) p)))
  kept_stood false same p has = kept_is (of past) total exact (of now) p has

module _ (now past : Rows) (w : Bool) (same : AreNow w past now) (h : ArePassed past now) where
  pub warehouses_are : entries past.warehouses ≡ entries_then w past.warehouses (entries now.warehouses)
  warehouses_are = all_stood warehouse_total exact_warehouse (λ r. r.warehouses) now past w same h.warehouses

  pub districts_are : entries past.districts ≡ entries_then w past.districts (entries now.districts)
  districts_are = all_stood district_total exact_district (λ r. r.districts) now past w same h.districts

  pub customers_are : entries past.customers ≡ entries_then w past.customers (entries now.customers)
  customers_are = all_stood customer_total exact_customer (λ r. r.customers) now past w same h.customers

  pub all_orders_are : entries past.orders ≡ entries_then w past.orders (entries now.orders)
  all_orders_are = all_stood order_total exact_order (λ r. r.orders) now past w same h.orders

  pub all_lines_are : entries past.order_lines ≡ entries_then w past.order_lines (entries now.order_lines)
  all_lines_are = all_stood order_line_total exact_order_line (λ r. r.order_lines) now past w same h.order_lines

  pub districts_of_are : (g : WarehouseKey) → entries_of warehouse_cmp warehouse_of_district g past.districts
      ≡ entries_then w
      past.districts (entries_of warehouse_cmp warehouse_of_district g now.districts)
  districts_of_are g = kept_stood district_total exact_district (λ r. r.districts) now past w same
      (λ k. eq_by_cmp warehouse_cmp (warehouse_of_district k) g) h.districts

  pub orders_are : (g : DistrictKey) → entries_of district_cmp district_of_order g past.orders
      ≡ entries_then w past.orders
      (entries_of district_cmp district_of_order g now.orders)
  orders_are g = kept_stood order_total exact_order (λ r. r.orders) now past w same
      (λ k. eq_by_cmp district_cmp (district_of_order k) g) h.orders

  pub lines_are : (g : DistrictKey) → entries_of district_cmp (λ k. district_of_order (order_of_line k)) g
      past.order_lines ≡ entries_then w past.order_lines
      (entries_of district_cmp (λ k. district_of_order (order_of_line k)) g now.order_lines)
  lines_are g =
      kept_stood order_line_total exact_order_line (λ r. r.order_lines) now past w same
      (λ k. eq_by_cmp district_cmp (district_of_order (order_of_line k)) g) h.order_lines

  pub lines_of_are : (k : OrderKey) → entries_of order_cmp order_of_line k past.order_lines
      ≡ entries_then w past.order_lines
      (entries_of order_cmp order_of_line k now.order_lines)
  lines_of_are k = kept_stood order_line_total exact_order_line (λ r. r.order_lines) now past w same
      (λ l. eq_by_cmp order_cmp (order_of_line l) k) h.order_lines

  -- what condition 6 counts
  pub lines_were : (k : OrderKey) → lines_of_order past k ≡ length
      (entries_then w past.order_lines (entries_of order_cmp order_of_line k now.order_lines))
  lines_were k =
      sum_of_group order_line_total exact_order_line past.order_lines (λ l. eq_by_cmp order_cmp (order_of_line l) k)
      (λ l y. 1)
      ∙ ones (entries_of order_cmp order_of_line k past.order_lines) ∙ ap length (lines_of_are k)

  -- what conditions 1 and 4 sum up
  pub ytd_was : (g : WarehouseKey) → ytd_of past g ≡ sum_by (λ (e : DistrictKey × District). e.1.ytd)
      (entries_then w past.districts (entries_of warehouse_cmp warehouse_of_district g now.districts))
  ytd_was g =
      sum_of_group district_total exact_district past.districts
      (λ k. eq_by_cmp warehouse_cmp (warehouse_of_district k) g) (λ k x. x.ytd)
      ∙ ap (sum_by (λ (e : DistrictKey × District). e.1.ytd)) (districts_of_are g)

  pub asked_was : (g : DistrictKey) → lines_asked past g ≡ sum_by (λ (e : OrderKey × Order). e.1.line_count)
      (entries_then w past.orders (entries_of district_cmp district_of_order g now.orders))
  asked_was g = asked_is past g ∙ ap (sum_by (λ (e : OrderKey × Order). e.1.line_count)) (orders_are g)

  pub there_was : (g : DistrictKey) → lines_there past g ≡ length
      (entries_then w past.order_lines
      (entries_of district_cmp (λ k. district_of_order (order_of_line k)) g now.order_lines))
  there_was g = there_is past g ∙ ap length (lines_are g)

  -- an order that waited for its delivery was there, and is
  module _ (g : DistrictKey) where
    abbrev in_district : OrderKey → Bool
    in_district k = eq_by_cmp district_cmp (district_of_order k) g

    abbrev group : List (OrderKey × Order)
    group = entries (retain_keys now.orders in_district)

    found_in : (q : NewOrderKey) → find new_order_cmp q (as_new group) ≡ cond (in_district (order_of_new_order q))
        (get now.orders (order_of_new_order q)) None
    found_in q =
        find_same q group ∙ sym (get-entries (retain_keys now.orders in_district) (order_of_new_order q))
        ∙ get-retain_keys now.orders in_district (order_of_new_order q)
        (λ x e. ap in_district (sym (exact_order (order_of_new_order q) x e)))

    waiting_there : (q : NewOrderKey) → eq_by_cmp district_cmp (district_of_new_order q) g ≡ true
        → IsSome (get past.new_orders q) → IsSome (find new_order_cmp q (as_new group))
    waiting_there q own there =
        ap is_some (found_in q ∙ ap (λ b. cond b (get now.orders (order_of_new_order q)) None) own)
        ∙ h.orders (order_of_new_order q) (h.new_orders q there)

    pub new_orders_are : entries_of district_cmp district_of_new_order g past.new_orders ≡ rows_at past.new_orders
        (as_new (entries_of district_cmp district_of_order g now.orders))
    new_orders_are =
        kept_among past.new_orders new_order_total exact_new_order
        (λ k. eq_by_cmp district_cmp (district_of_new_order k) g) (as_new group)
        (subst T (sym (sorted_same group)) (entries_sorted (retain_keys now.orders in_district)))
        waiting_there
        (λ q there. chosen (in_district (order_of_new_order q)) (get now.orders (order_of_new_order q))
        (ap is_some (sym (found_in q)) ∙ there))
