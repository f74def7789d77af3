-- What the schema asks of rows (clauses 1.3 and 1.4), and when the tables accept a change. Ranges are by type.
use Rattle.std.specs.Prelude.{◌≡◌, ◌≢◌, ◌≤◌, Bool, true, false, None, Some, IsSome, List, [], ◌∷◌}
use Rattle.std.specs.List.{Contains}
use Rattle.std.specs.FinMap.{get}
use Rattle.oe_rows.specs.declared.keys.DistrictKey.{DistrictKey}
use Rattle.oe_rows.specs.declared.keys.CustomerKey.{CustomerKey}
use Rattle.oe_rows.specs.declared.keys.HistoryKey.{HistoryKey}
use Rattle.oe_rows.specs.declared.keys.NewOrderKey.{NewOrderKey}
use Rattle.oe_rows.specs.declared.keys.OrderKey.{OrderKey}
use Rattle.oe_rows.specs.declared.keys.OrderLineKey.{OrderLineKey}
use Rattle.oe_rows.specs.declared.keys.StockKey.{StockKey}
use Rattle.oe_rows.specs.declared.districts.District.{District}
use Rattle.oe_rows.specs.declared.customers.Customer.{Customer}
use Rattle.oe_rows.specs.declared.histories.History.{History}
use Rattle.oe_rows.specs.declared.orders.NewOrder.{NewOrder}
use Rattle.oe_rows.specs.declared.orders.Order.{Order}
use Rattle.oe_rows.specs.declared.orders.OrderLine.{OrderLine}
use Rattle.oe_rows.specs.declared.items.Stock.{Stock}
use Rattle.oe_rows.specs.declared.keys.Key.{Key}
use Rattle.oe_rows.specs.declared.keys.Key.TheVariants as key
use Rattle.oe_requests.specs.declared.refusals.Refusal.{Refusal}
use Rattle.oe_requests.specs.declared.refusals.Refusal.TheVariants.{NoSuchRow, RowExists, Reference, KeyColumn}
use Rattle.oe_model.specs.Keys.{warehouse_of_district, district_of_customer, order_of_new_order, customer_of_order}
use Rattle.oe_model.specs.Keys.{order_of_line, supply_of_line, warehouse_of_stock, item_of_stock}
use Rattle.oe_model.specs.Rows.{Rows, row_at}
use Rattle.oe_model.specs.Changes.{Change, InsertHistory, InsertNewOrder, InsertOrder, InsertOrderLine, UpdateWarehouse}
use Rattle.oe_model.specs.Changes.{UpdateDistrict, UpdateCustomer, UpdateOrder, UpdateOrderLine, UpdateStock}
use Rattle.oe_model.specs.Changes.{DeleteNewOrder, key_of}

-- each reference finds its row, and each warehouse has ten districts
pub record Meets (r : Rows) : Type 0 where
  pub districts : (k : DistrictKey) (x : District) → get r.districts k ≡ Some x
      → IsSome (get r.warehouses (warehouse_of_district k))
  pub customers : (k : CustomerKey) (x : Customer) → get r.customers k ≡ Some x
      → IsSome (get r.districts (district_of_customer k))
  pub histories : (k : HistoryKey) (x : History) → get r.histories k ≡ Some x
      → IsSome (get r.customers x.customer) × IsSome (get r.districts x.district)
  pub new_orders : (k : NewOrderKey) (x : NewOrder) → get r.new_orders k ≡ Some x
      → IsSome (get r.orders (order_of_new_order k))
  pub orders : (k : OrderKey) (x : Order) → get r.orders k ≡ Some x → IsSome (get r.customers (customer_of_order k x))
  pub order_lines : (k : OrderLineKey) (x : OrderLine) → get r.order_lines k ≡ Some x
      → IsSome (get r.orders (order_of_line k)) × IsSome (get r.stocks (supply_of_line x))
  pub stocks : (k : StockKey) (x : Stock) → get r.stocks k ≡ Some x
      → IsSome (get r.warehouses (warehouse_of_stock k)) × IsSome (get r.items (item_of_stock k))
  pub ten_districts : (k : DistrictKey) → IsSome (get r.warehouses (warehouse_of_district k))
      → 1 ≤ k.district → k.district ≤ 10 → IsSome (get r.districts k)

-- a change is accepted: an insert where its key is absent and what it refers to is there, an update where its key is
-- there, O_C_ID stays and what it refers to is there, a delete where its key is there
abbrev pub Accepts : Change → Rows → Type 0
Accepts (InsertHistory k x) r = (get r.histories k ≡ None) × IsSome (get r.customers x.customer)
    × IsSome (get r.districts x.district)
Accepts (InsertNewOrder k x) r = (get r.new_orders k ≡ None) × IsSome (get r.orders (order_of_new_order k))
Accepts (InsertOrder k x) r = (get r.orders k ≡ None) × IsSome (get r.customers (customer_of_order k x))
Accepts (InsertOrderLine k x) r = (get r.order_lines k ≡ None) × IsSome (get r.orders (order_of_line k))
    × IsSome (get r.stocks (supply_of_line x))
Accepts (UpdateWarehouse k x) r = IsSome (get r.warehouses k)
Accepts (UpdateDistrict k x) r = IsSome (get r.districts k)
Accepts (UpdateCustomer k x) r = IsSome (get r.customers k)
Accepts (UpdateOrder k x) r = (y : Order) × (get r.orders k ≡ Some y) × (x.customer ≡ y.customer)
Accepts (UpdateOrderLine k x) r = IsSome (get r.order_lines k) × IsSome (get r.stocks (supply_of_line x))
Accepts (UpdateStock k x) r = IsSome (get r.stocks k)
Accepts (DeleteNewOrder k) r = IsSome (get r.new_orders k)

-- whether a change is an insert
abbrev pub is_insert : Change → Bool
is_insert (InsertHistory k x) = true
is_insert (InsertNewOrder k x) = true
is_insert (InsertOrder k x) = true
is_insert (InsertOrderLine k x) = true
is_insert _ = false

-- the rows that the new row of a change refers to, but for those that its key has always referred to
abbrev pub new_references : Change → List Key
new_references (InsertHistory k x) = key.Customer x.customer ∷ key.District x.district ∷ []
new_references (InsertNewOrder k x) = key.Order (order_of_new_order k) ∷ []
new_references (InsertOrder k x) = key.Customer (customer_of_order k x) ∷ []
new_references (InsertOrderLine k x) = key.Order (order_of_line k) ∷ key.Stock (supply_of_line x) ∷ []
new_references (UpdateOrderLine k x) = key.Stock (supply_of_line x) ∷ []
new_references _ = []

-- an update changes a column that is part of an index's key: O_C_ID
abbrev pub ChangesKeyColumn : Change → Rows → Type 0
ChangesKeyColumn (UpdateOrder k x) r = (y : Order) × (get r.orders k ≡ Some y) × (x.customer ≢ y.customer)
ChangesKeyColumn _ r = ⊥

-- why a change is refused
abbrev pub Cause : Change → Rows → Refusal → Type 0
Cause c r (NoSuchRow k) = (k ≡ key_of c) × (is_insert c ≡ false) × (row_at r k ≡ None)
Cause c r (RowExists k) = (k ≡ key_of c) × (is_insert c ≡ true) × IsSome (row_at r k)
Cause c r (Reference k) = Contains (new_references c) k × (row_at r k ≡ None)
Cause c r KeyColumn = ChangesKeyColumn c r
Cause c r _ = ⊥
