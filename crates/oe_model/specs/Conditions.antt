-- Consistency conditions 1 to 4 (clauses 3.3.2.1 to 3.3.2.4), populations, and what holds of the tables between
-- transactions.
use Rattle.std.specs.Prelude.{◌≡◌, ℕ, ◌+◌, ◌-◌, ◌<◌, ◌≤◌, cond, None, Some, IsSome}
use Rattle.std.specs.Ordering.{eq_by_cmp}
use Rattle.std.specs.FinMap.{get}
use Rattle.oe_rows.specs.Key.{warehouse_cmp, district_cmp}
use Rattle.oe_rows.specs.declared.keys.WarehouseKey.{WarehouseKey}
use Rattle.oe_rows.specs.declared.keys.DistrictKey.{DistrictKey}
use Rattle.oe_rows.specs.declared.keys.HistoryKey.{HistoryKey}
use Rattle.oe_rows.specs.declared.keys.StockKey.{StockKey}
use Rattle.oe_rows.specs.declared.warehouses.Warehouse.{Warehouse}
use Rattle.oe_rows.specs.declared.districts.District.{District}
use Rattle.oe_rows.specs.declared.histories.History.{History}
use Rattle.oe_model.specs.Keys.{warehouse_of_district, district_of_order, district_of_new_order, order_of_line}
use Rattle.oe_model.specs.Keys.{order_in, new_order_in, warehouse_of_stock, item_of_stock}
use Rattle.oe_model.specs.Rows.{Rows}
use Rattle.oe_model.specs.Maps.{sum_of}
use Rattle.oe_model.specs.Meets.{Meets}

-- n is the greatest, or the least, number with P, or one more than the greatest
abbrev pub IsGreatest : (ℕ → Type 0) → ℕ → Type 0
IsGreatest P n = P n × ((m : ℕ) → P m → m ≤ n)

abbrev pub IsLeast : (ℕ → Type 0) → ℕ → Type 0
IsLeast P n = P n × ((m : ℕ) → P m → n ≤ m)

abbrev pub IsAfterGreatest : (ℕ → Type 0) → ℕ → Type 0
IsAfterGreatest P n = (m : ℕ) × (n ≡ m + 1) × IsGreatest P m

-- a number that counts for one warehouse, or for one district, and is 0 for others
abbrev pub if_of_warehouse : WarehouseKey → DistrictKey → ℕ → ℕ
if_of_warehouse w h n = cond (eq_by_cmp warehouse_cmp (warehouse_of_district h) w) n 0

abbrev pub if_of : DistrictKey → DistrictKey → ℕ → ℕ
if_of h g n = cond (eq_by_cmp district_cmp g h) n 0

-- the district has an ORDER row, or a NEW-ORDER row, of this number
abbrev pub HasOrder : Rows → DistrictKey → ℕ → Type 0
HasOrder r h o = IsSome (get r.orders (order_in h o))

abbrev pub HasNewOrder : Rows → DistrictKey → ℕ → Type 0
HasNewOrder r h o = IsSome (get r.new_orders (new_order_in h o))

-- the sum of a warehouse's D_YTD
abbrev pub ytd_of : Rows → WarehouseKey → ℕ
ytd_of r w = sum_of (λ h y. if_of_warehouse w h y.ytd) r.districts

-- the number of a district's NEW-ORDER rows
abbrev pub new_orders_of : Rows → DistrictKey → ℕ
new_orders_of r h = sum_of (λ k y. if_of h (district_of_new_order k) 1) r.new_orders

-- the sum of a district's O_OL_CNT
abbrev pub lines_asked : Rows → DistrictKey → ℕ
lines_asked r h = sum_of (λ k y. if_of h (district_of_order k) y.line_count) r.orders

-- the number of a district's ORDER-LINE rows
abbrev pub lines_there : Rows → DistrictKey → ℕ
lines_there r h = sum_of (λ k y. if_of h (district_of_order (order_of_line k)) 1) r.order_lines

-- condition 1 of a warehouse: W_YTD is the sum of its districts' D_YTD
abbrev pub Condition_1_at : Rows → WarehouseKey → Warehouse → Type 0
Condition_1_at r w x = x.ytd ≡ ytd_of r w

-- condition 2 of a district: D_NEXT_O_ID - 1 is the greatest O_ID, and the greatest NO_O_ID where there is a NEW-ORDER
-- row
pub record Condition_2_at (r : Rows) (h : DistrictKey) (x : District) : Type 0 where
  pub orders : IsAfterGreatest (HasOrder r h) x.next_order
  pub new_orders : (o : ℕ) → HasNewOrder r h o → IsAfterGreatest (HasNewOrder r h) x.next_order

-- condition 3 of a district: where there is a NEW-ORDER row, the greatest NO_O_ID less the least, and 1, is their
-- number
abbrev pub Condition_3_at : Rows → DistrictKey → Type 0
Condition_3_at r h =
    (greatest least : ℕ) → IsGreatest (HasNewOrder r h) greatest → IsLeast (HasNewOrder r h) least
    → greatest - least + 1 ≡ new_orders_of r h

-- condition 4 of a district: the sum of O_OL_CNT is the number of ORDER-LINE rows
abbrev pub Condition_4_at : Rows → DistrictKey → Type 0
Condition_4_at r h = lines_asked r h ≡ lines_there r h

-- each condition, of each warehouse or district
abbrev pub Condition_1 : Rows → Type 0
Condition_1 r = (w : WarehouseKey) (x : Warehouse) → get r.warehouses w ≡ Some x → Condition_1_at r w x

abbrev pub Condition_2 : Rows → Type 0
Condition_2 r = (h : DistrictKey) (x : District) → get r.districts h ≡ Some x → Condition_2_at r h x

abbrev pub Condition_3 : Rows → Type 0
Condition_3 r = (h : DistrictKey) → IsSome (get r.districts h) → Condition_3_at r h

abbrev pub Condition_4 : Rows → Type 0
Condition_4 r = (h : DistrictKey) → IsSome (get r.districts h) → Condition_4_at r h

-- each warehouse has a STOCK row for each ITEM row
abbrev pub IsStocked : Rows → Type 0
IsStocked r = (k : StockKey) → IsSome (get r.warehouses (warehouse_of_stock k)) → IsSome (get r.items (item_of_stock k))
    → IsSome (get r.stocks k)

-- tables to begin from: the schema, conditions 1 to 4 (by the second each district has an order), and HISTORY rows of
-- terminal 0 alone
pub record IsPopulation (r : Rows) : Type 0 where
  pub meets : Meets r
  pub condition_1 : Condition_1 r
  pub condition_2 : Condition_2 r
  pub condition_3 : Condition_3 r
  pub condition_4 : Condition_4 r
  pub stocked : IsStocked r
  pub histories : (k : HistoryKey) (x : History) → get r.histories k ≡ Some x → k.terminal ≡ 0

-- what holds between transactions, where f has the number of commits of each terminal
pub record Good (f : ℕ → ℕ) (r : Rows) : Type 0 where
  pub meets : Meets r
  pub condition_1 : Condition_1 r
  pub condition_2 : Condition_2 r
  pub condition_3 : Condition_3 r
  pub condition_4 : Condition_4 r
  pub stocked : IsStocked r
  -- no transaction to come has a HISTORY row; terminal 0 is the population's
  pub unused : (k : HistoryKey) → 1 ≤ k.terminal → f k.terminal < k.number → get r.histories k ≡ None
