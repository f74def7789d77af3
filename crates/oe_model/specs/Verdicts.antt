-- What the verdicts of audits say (clauses 3.3.2.1 to 3.3.2.10 and 3.3.2.12).
use Rattle.std.specs.Prelude.{◌≡◌, ◌↔◌, true, Some}
use Rattle.std.specs.declared.cmp.Ordering.{Ordering}
use Rattle.std.specs.declared.cmp.Ordering.TheVariants.{Less}
use Rattle.std.specs.FinMap.{FinMap, get}
use Rattle.oe_rows.specs.declared.keys.WarehouseKey.{WarehouseKey}
use Rattle.oe_rows.specs.declared.keys.DistrictKey.{DistrictKey}
use Rattle.oe_rows.specs.declared.keys.CustomerKey.{CustomerKey}
use Rattle.oe_rows.specs.declared.keys.OrderKey.{OrderKey}
use Rattle.oe_rows.specs.declared.keys.OrderLineKey.{OrderLineKey}
use Rattle.oe_rows.specs.declared.keys.Key.{Key}
use Rattle.oe_rows.specs.declared.keys.Key.TheVariants as key
use Rattle.oe_rows.specs.declared.warehouses.Warehouse.{Warehouse}
use Rattle.oe_rows.specs.declared.districts.District.{District}
use Rattle.oe_rows.specs.declared.customers.Customer.{Customer}
use Rattle.oe_rows.specs.declared.orders.Order.{Order}
use Rattle.oe_rows.specs.declared.orders.OrderLine.{OrderLine}
use Rattle.oe_model.specs.Rows.{Rows}
use Rattle.oe_model.specs.Conditions.{Condition_1_at, Condition_2_at, Condition_3_at, Condition_4_at, Condition_1}
use Rattle.oe_model.specs.Conditions.{Condition_2, Condition_3, Condition_4}
use Rattle.oe_model.specs.FurtherConditions.{Condition_5_at, Condition_6_at, Condition_7_at, Condition_8_at}
use Rattle.oe_model.specs.FurtherConditions.{Condition_9_at, Condition_10_at, Condition_12_at, Condition_5, Condition_6}
use Rattle.oe_model.specs.FurtherConditions.{Condition_7, Condition_8, Condition_9, Condition_10, Condition_12}
use Rattle.oe_model.specs.Audits.{Condition, First, Second, Third, Fourth, Fifth, Sixth, Seventh, Eighth, Ninth, Tenth}
use Rattle.oe_model.specs.Audits.{Twelfth, Holds, Fails, passes_1, passes_2, passes_3, passes_4, passes_5, passes_6}
use Rattle.oe_model.specs.Audits.{passes_7, passes_8, passes_9, passes_10, passes_12, verdict}

-- this key's row fails, and no row before it in key order does
pub record IsFirstFailing {K X : Type 0} {R : K → K → Ordering} (P : K → X → Type 0) (m : FinMap R X) (k : K) : Type
    0 where
  pub row : X
  pub is_row : get m k ≡ Some row
  pub fails : P k row → ⊥
  pub none_before : (j : K) (y : X) → get m j ≡ Some y → R j k ≡ Less → P j y

-- the condition holds
abbrev pub IsMet : Condition → Rows → Type 0
IsMet First r = Condition_1 r
IsMet Second r = Condition_2 r
IsMet Third r = Condition_3 r
IsMet Fourth r = Condition_4 r
IsMet Fifth r = Condition_5 r
IsMet Sixth r = Condition_6 r
IsMet Seventh r = Condition_7 r
IsMet Eighth r = Condition_8 r
IsMet Ninth r = Condition_9 r
IsMet Tenth r = Condition_10 r
IsMet Twelfth r = Condition_12 r

-- the first row at which the condition fails: for conditions 1 and 8 a WAREHOUSE row, for 2, 3, 4 and 9 a DISTRICT row,
-- for 5 and 6 an ORDER row, for 7 an ORDER-LINE row, for 10 and 12 a CUSTOMER row
abbrev pub IsFirstRow : Condition → Rows → Key → Type 0
IsFirstRow First r (key.Warehouse w) = IsFirstFailing (Condition_1_at r) r.warehouses w
IsFirstRow Second r (key.District h) = IsFirstFailing (Condition_2_at r) r.districts h
IsFirstRow Third r (key.District h) = IsFirstFailing (λ g x. Condition_3_at r g) r.districts h
IsFirstRow Fourth r (key.District h) = IsFirstFailing (λ g x. Condition_4_at r g) r.districts h
IsFirstRow Fifth r (key.Order k) = IsFirstFailing (Condition_5_at r) r.orders k
IsFirstRow Sixth r (key.Order k) = IsFirstFailing (Condition_6_at r) r.orders k
IsFirstRow Seventh r (key.OrderLine l) = IsFirstFailing (Condition_7_at r) r.order_lines l
IsFirstRow Eighth r (key.Warehouse w) = IsFirstFailing (Condition_8_at r) r.warehouses w
IsFirstRow Ninth r (key.District h) = IsFirstFailing (Condition_9_at r) r.districts h
IsFirstRow Tenth r (key.Customer c) = IsFirstFailing (Condition_10_at r) r.customers c
IsFirstRow Twelfth r (key.Customer c) = IsFirstFailing (Condition_12_at r) r.customers c
IsFirstRow _ r _ = ⊥

-- the test of a row, which computes, is the condition at that row
pub record Tests_are_conditions : Type 0 where
  pub first : (r : Rows) (w : WarehouseKey) (x : Warehouse) → (passes_1 r w x ≡ true) ↔ Condition_1_at r w x
  pub second : (r : Rows) (h : DistrictKey) (x : District) → (passes_2 r h x ≡ true) ↔ Condition_2_at r h x
  pub third : (r : Rows) (h : DistrictKey) (x : District) → (passes_3 r h x ≡ true) ↔ Condition_3_at r h
  pub fourth : (r : Rows) (h : DistrictKey) (x : District) → (passes_4 r h x ≡ true) ↔ Condition_4_at r h
  pub fifth : (r : Rows) (k : OrderKey) (x : Order) → (passes_5 r k x ≡ true) ↔ Condition_5_at r k x
  pub sixth : (r : Rows) (k : OrderKey) (x : Order) → (passes_6 r k x ≡ true) ↔ Condition_6_at r k x
  pub seventh : (r : Rows) (l : OrderLineKey) (x : OrderLine) → (passes_7 r l x ≡ true) ↔ Condition_7_at r l x
  pub eighth : (r : Rows) (w : WarehouseKey) (x : Warehouse) → (passes_8 r w x ≡ true) ↔ Condition_8_at r w x
  pub ninth : (r : Rows) (h : DistrictKey) (x : District) → (passes_9 r h x ≡ true) ↔ Condition_9_at r h x
  pub tenth : (r : Rows) (c : CustomerKey) (x : Customer) → (passes_10 r c x ≡ true) ↔ Condition_10_at r c x
  pub twelfth : (r : Rows) (c : CustomerKey) (x : Customer) → (passes_12 r c x ≡ true) ↔ Condition_12_at r c x

-- a verdict is that the condition holds exactly where it does, and else names exactly the first row at which it fails
pub record Verdicts_are_exact : Type 0 where
  pub holds : (c : Condition) (r : Rows) → (verdict c r ≡ Holds) ↔ IsMet c r
  pub fails : (c : Condition) (r : Rows) (k : Key) → (verdict c r ≡ Fails k) ↔ IsFirstRow c r k
