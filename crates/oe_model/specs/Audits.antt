-- Audits: whether a condition holds, and otherwise the first row, in key order, at which it fails.
use Rattle.std.specs.Prelude.{ℕ, suc, ◌+◌, ◌-◌, ◌==◌, pos, ◌+ℤ◌, ◌-ℤ◌, Bool, true, false, not, ◌&&◌, List, map, find}
use Rattle.std.specs.Prelude.{Option, None, Some, option_map, is_some, is_none, nat_le}
use Rattle.std.specs.List.{list_any}
use Rattle.std.specs.declared.cmp.Ordering.{Ordering}
use Rattle.std.specs.Ordering.{eq_by_cmp, int_eq}
use Rattle.std.specs.FinMap.{FinMap, get, entries, retain_keys}
use Rattle.oe_rows.specs.Key.{district_cmp, new_order_cmp, order_cmp}
use Rattle.oe_rows.specs.declared.keys.WarehouseKey.{WarehouseKey}
use Rattle.oe_rows.specs.declared.keys.DistrictKey.{DistrictKey}
use Rattle.oe_rows.specs.declared.keys.CustomerKey.{CustomerKey}
use Rattle.oe_rows.specs.declared.keys.OrderKey.{OrderKey}
use Rattle.oe_rows.specs.declared.keys.OrderLineKey.{OrderLineKey}
use Rattle.oe_rows.specs.declared.keys.Key.{Key}
use Rattle.oe_rows.specs.declared.keys.Key.TheVariants as key
use Rattle.oe_rows.specs.declared.warehouses.Warehouse.{Warehouse}
use Rattle.oe_rows.specs.declared.districts.District.{District}
use Rattle.oe_rows.specs.declared.customers.Customer.{Customer}
use Rattle.oe_rows.specs.declared.orders.NewOrder.{NewOrder}
use Rattle.oe_rows.specs.declared.orders.Order.{Order}
use Rattle.oe_rows.specs.declared.orders.OrderLine.{OrderLine}
use Rattle.oe_model.specs.Keys.{district_of_order, district_of_new_order, order_of_line, new_order_in}
use Rattle.oe_model.specs.Rows.{Rows}
use Rattle.oe_model.specs.Conditions.{ytd_of, new_orders_of, lines_asked, lines_there}
use Rattle.oe_model.specs.FurtherConditions.{lines_of_order, paid_in_warehouse, paid_in_district, paid_by}
use Rattle.oe_model.specs.FurtherConditions.{delivered_for}

pub data Condition : Type 0 where
  First : Condition
  Second : Condition
  Third : Condition
  Fourth : Condition
  Fifth : Condition
  Sixth : Condition
  Seventh : Condition
  Eighth : Condition
  Ninth : Condition
  Tenth : Condition
  Twelfth : Condition

pub data Verdict : Type 0 where
  Holds : Verdict
  Fails : Key → Verdict

-- the first row that fails the test
abbrev pub first_failing : {K X : Type 0} {R : K → K → Ordering} → (K → X → Bool) → FinMap R X → Option K
first_failing test m = option_map (λ e. e.0) (find (λ e. not (test e.0 e.1)) (entries m))

abbrev pub verdict_of : {K : Type 0} → (K → Key) → Option K → Verdict
verdict_of at None = Holds
verdict_of at (Some k) = Fails (at k)

-- the O_IDs, and the NO_O_IDs, of a district
abbrev pub order_numbers : DistrictKey → FinMap order_cmp Order → List ℕ
order_numbers h m = map (λ e. e.0.order) (entries (retain_keys m (λ k. eq_by_cmp district_cmp (district_of_order k) h)))

abbrev pub new_order_numbers : DistrictKey → FinMap new_order_cmp NewOrder → List ℕ
new_order_numbers h m = map (λ e. e.0.order)
    (entries (retain_keys m (λ k. eq_by_cmp district_cmp (district_of_new_order k) h)))

abbrev pub greatest : List ℕ → Option ℕ
greatest ns = find (λ n. not (list_any (λ m. nat_le (suc n) m) ns)) ns

abbrev pub least : List ℕ → Option ℕ
least ns = find (λ n. not (list_any (λ m. nat_le (suc m) n) ns)) ns

-- there is no such number, or it passes the test
abbrev pub none_or : Option ℕ → (ℕ → Bool) → Bool
none_or None test = true
none_or (Some n) test = test n

-- there is such a number, and it passes the test
abbrev pub some_and : Option ℕ → (ℕ → Bool) → Bool
some_and None test = false
some_and (Some n) test = test n

-- each condition at one row; a district without an order fails the second
abbrev pub passes_1 : Rows → WarehouseKey → Warehouse → Bool
passes_1 r w x = x.ytd == ytd_of r w

abbrev pub passes_2 : Rows → DistrictKey → District → Bool
passes_2 r h x =
    some_and (greatest (order_numbers h r.orders)) (λ n. x.next_order == n + 1)
    && none_or (greatest (new_order_numbers h r.new_orders)) (λ n. x.next_order == n + 1)

abbrev pub passes_3 : Rows → DistrictKey → District → Bool
passes_3 r h x =
    none_or (greatest (new_order_numbers h r.new_orders)) (λ n.
    none_or (least (new_order_numbers h r.new_orders)) (λ m. n - m + 1 == new_orders_of r h))

abbrev pub passes_4 : Rows → DistrictKey → District → Bool
passes_4 r h x = lines_asked r h == lines_there r h

-- both are so, or neither is
abbrev pub agree : Bool → Bool → Bool
agree true b = b
agree false b = not b

abbrev pub passes_5 : Rows → OrderKey → Order → Bool
passes_5 r k x = agree (is_none x.carrier) (is_some (get r.new_orders (new_order_in (district_of_order k) k.order)))

abbrev pub passes_6 : Rows → OrderKey → Order → Bool
passes_6 r k x = x.line_count == lines_of_order r k

-- the ORDER row's O_CARRIER_ID, where there is such a row, is none exactly where OL_DELIVERY_D is
abbrev pub is_dated_as : OrderLine → Option Order → Bool
is_dated_as y None = true
is_dated_as y (Some x) = agree (is_none y.delivery) (is_none x.carrier)

abbrev pub passes_7 : Rows → OrderLineKey → OrderLine → Bool
passes_7 r l y = is_dated_as y (get r.orders (order_of_line l))

abbrev pub passes_8 : Rows → WarehouseKey → Warehouse → Bool
passes_8 r w x = x.ytd == paid_in_warehouse r w

abbrev pub passes_9 : Rows → DistrictKey → District → Bool
passes_9 r h x = x.ytd == paid_in_district r h

abbrev pub passes_10 : Rows → CustomerKey → Customer → Bool
passes_10 r c x = int_eq x.account.balance (pos (delivered_for r c) -ℤ pos (paid_by r c))

abbrev pub passes_12 : Rows → CustomerKey → Customer → Bool
passes_12 r c x = int_eq (x.account.balance +ℤ pos x.account.ytd_payment) (pos (delivered_for r c))

abbrev pub verdict : Condition → Rows → Verdict
verdict First r = verdict_of key.Warehouse (first_failing (passes_1 r) r.warehouses)
verdict Second r = verdict_of key.District (first_failing (passes_2 r) r.districts)
verdict Third r = verdict_of key.District (first_failing (passes_3 r) r.districts)
verdict Fourth r = verdict_of key.District (first_failing (passes_4 r) r.districts)
verdict Fifth r = verdict_of key.Order (first_failing (passes_5 r) r.orders)
verdict Sixth r = verdict_of key.Order (first_failing (passes_6 r) r.orders)
verdict Seventh r = verdict_of key.OrderLine (first_failing (passes_7 r) r.order_lines)
verdict Eighth r = verdict_of key.Warehouse (first_failing (passes_8 r) r.warehouses)
verdict Ninth r = verdict_of key.District (first_failing (passes_9 r) r.districts)
verdict Tenth r = verdict_of key.Customer (first_failing (passes_10 r) r.customers)
verdict Twelfth r = verdict_of key.Customer (first_failing (passes_12 r) r.customers)
