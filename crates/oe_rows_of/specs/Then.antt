-- What a key has then, now or at a moment, and what a walk of the rows that stand passes.
use Rattle.std.specs.Prelude.{◌≡◌, Bool, true, false, Option, Some, IsSome, is_some}
use Rattle.std.specs.declared.cmp.Ordering.{Ordering}
use Rattle.std.specs.FinMap.{FinMap, get}
use Rattle.oe_rows.specs.declared.keys.WarehouseKey.{WarehouseKey}
use Rattle.oe_rows.specs.declared.keys.DistrictKey.{DistrictKey}
use Rattle.oe_rows.specs.declared.keys.CustomerKey.{CustomerKey}
use Rattle.oe_rows.specs.declared.keys.HistoryKey.{HistoryKey}
use Rattle.oe_rows.specs.declared.keys.OrderKey.{OrderKey}
use Rattle.oe_rows.specs.declared.keys.OrderLineKey.{OrderLineKey}
use Rattle.oe_rows.specs.declared.keys.NewOrderKey.{NewOrderKey}
use Rattle.oe_model.specs.Keys.{order_of_new_order}
use Rattle.oe_model.specs.Rows.{Rows}

-- what a key has then, if it has this row now
abbrev pub row_then : {K X : Type 0} {R : K → K → Ordering} → Bool → FinMap R X → K → X → Option X
row_then true m k x = Some x
row_then false m k x = get m k

-- whether a key has a row then, if it has one now
abbrev pub has_row_then : {K X : Type 0} {R : K → K → Ordering} → Bool → FinMap R X → K → Bool
has_row_then true m k = true
has_row_then false m k = is_some (get m k)

-- rows that are said to be those that stand are these
abbrev pub AreNow : Bool → Rows → Rows → Type 0
AreNow true past now = past ≡ now
AreNow false past now = Unit {0}

-- the key has a row
abbrev pub Has : {K X : Type 0} {R : K → K → Ordering} → FinMap R X → K → Type 0
Has m k = IsSome (get m k)

-- a walk of the rows that stand passes each key that had a row then; a NEW-ORDER row has its ORDER row, and a HISTORY
-- row is as it was
pub record ArePassed (past now : Rows) : Type 0 where
  pub warehouses : (k : WarehouseKey) → Has past.warehouses k → Has now.warehouses k
  pub districts : (k : DistrictKey) → Has past.districts k → Has now.districts k
  pub customers : (k : CustomerKey) → Has past.customers k → Has now.customers k
  pub histories : (k : HistoryKey)
      → Has past.histories k → get now.histories k ≡ get past.histories k
  pub orders : (k : OrderKey) → Has past.orders k → Has now.orders k
  pub order_lines : (k : OrderLineKey) → Has past.order_lines k → Has now.order_lines k
  pub new_orders : (k : NewOrderKey)
      → Has past.new_orders k → Has past.orders (order_of_new_order k)
