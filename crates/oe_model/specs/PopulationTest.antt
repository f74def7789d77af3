-- A test, which computes, of whether tables are such as to begin from.
use Rattle.std.specs.Prelude.{◌≡◌, ◌↔◌, ◌==◌, Bool, true, ◌&&◌, is_some}
use Rattle.std.specs.List.{list_all, range_with_len}
use Rattle.std.specs.declared.cmp.Ordering.{Ordering}
use Rattle.std.specs.FinMap.{FinMap, get, entries}
use Rattle.oe_model.specs.Keys.{warehouse_of_district, district_of_customer, order_of_new_order, customer_of_order}
use Rattle.oe_model.specs.Keys.{order_of_line, supply_of_line, warehouse_of_stock, item_of_stock}
use Rattle.oe_model.specs.Rows.{Rows}
use Rattle.oe_model.specs.Conditions.{IsPopulation}
use Rattle.oe_model.specs.Audits.{passes_1, passes_2, passes_3, passes_4}

-- each row passes
abbrev pub each_row : {K X : Type 0} {R : K → K → Ordering} → (K → X → Bool) → FinMap R X → Bool
each_row test m = list_all (λ e. test e.0 e.1) (entries m)

-- each reference finds its row, and each warehouse has ten districts
abbrev pub meets_schema : Rows → Bool
meets_schema r =
    each_row (λ k x. is_some (get r.warehouses (warehouse_of_district k))) r.districts
    && each_row (λ k x. is_some (get r.districts (district_of_customer k))) r.customers
    && each_row (λ k x. is_some (get r.customers x.customer) && is_some (get r.districts x.district)) r.histories
    && each_row (λ k x. is_some (get r.orders (order_of_new_order k))) r.new_orders
    && each_row (λ k x. is_some (get r.customers (customer_of_order k x))) r.orders
    && each_row (λ k x. is_some (get r.orders (order_of_line k)) && is_some (get r.stocks (supply_of_line x)))
    r.order_lines
    && each_row (λ k x. is_some (get r.warehouses (warehouse_of_stock k)) && is_some (get r.items (item_of_stock k)))
    r.stocks
    && each_row (λ w x. list_all (λ d. is_some (get r.districts (record { warehouse = w.warehouse; district = d })))
    (range_with_len 1 10)) r.warehouses

abbrev pub meets_conditions : Rows → Bool
meets_conditions r = each_row (passes_1 r) r.warehouses && each_row (passes_2 r) r.districts && each_row (passes_3 r)
    r.districts && each_row (passes_4 r) r.districts

-- each warehouse has a STOCK row for each ITEM row
abbrev pub has_stocks : Rows → Bool
has_stocks r = each_row
    (λ w x. each_row (λ i y. is_some (get r.stocks (record { warehouse = w.warehouse; item = i.item }))) r.items)
    r.warehouses

abbrev pub is_population : Rows → Bool
is_population r = meets_schema r && meets_conditions r && has_stocks r && each_row (λ k x. k.terminal == 0) r.histories

-- the test passes exactly where the tables are such
pub record Population_is_tested : Type 0 where
  pub exact : (r : Rows) → (is_population r ≡ true) ↔ IsPopulation r
