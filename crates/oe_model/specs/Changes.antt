-- Changes of one row, their undo records, and what both make of the tables.
use Rattle.std.specs.Prelude.{◌≡◌, Option, None, Some, IsSome, option_map, option_and_then}
use Rattle.std.specs.FinMap.{get, insert, remove}
use Rattle.oe_rows.specs.declared.keys.WarehouseKey.{WarehouseKey}
use Rattle.oe_rows.specs.declared.keys.DistrictKey.{DistrictKey}
use Rattle.oe_rows.specs.declared.keys.CustomerKey.{CustomerKey}
use Rattle.oe_rows.specs.declared.keys.HistoryKey.{HistoryKey}
use Rattle.oe_rows.specs.declared.keys.NewOrderKey.{NewOrderKey}
use Rattle.oe_rows.specs.declared.keys.OrderKey.{OrderKey}
use Rattle.oe_rows.specs.declared.keys.OrderLineKey.{OrderLineKey}
use Rattle.oe_rows.specs.declared.keys.StockKey.{StockKey}
use Rattle.oe_rows.specs.declared.warehouses.Warehouse.{Warehouse}
use Rattle.oe_rows.specs.declared.districts.District.{District}
use Rattle.oe_rows.specs.declared.customers.Customer.{Customer}
use Rattle.oe_rows.specs.declared.histories.History.{History}
use Rattle.oe_rows.specs.declared.orders.NewOrder.{NewOrder}
use Rattle.oe_rows.specs.declared.orders.Order.{Order}
use Rattle.oe_rows.specs.declared.orders.OrderLine.{OrderLine}
use Rattle.oe_rows.specs.declared.items.Stock.{Stock}
use Rattle.oe_rows.specs.declared.before.WarehouseBefore.{WarehouseBefore}
use Rattle.oe_rows.specs.declared.before.DistrictBefore.{DistrictBefore}
use Rattle.oe_rows.specs.declared.before.CustomerBefore.{CustomerBefore}
use Rattle.oe_rows.specs.declared.before.OrderBefore.{OrderBefore}
use Rattle.oe_rows.specs.declared.before.OrderLineBefore.{OrderLineBefore}
use Rattle.oe_rows.specs.declared.before.StockBefore.{StockBefore}
use Rattle.oe_rows.specs.Before.{warehouse_before, district_before, customer_before, order_before, order_line_before}
use Rattle.oe_rows.specs.Before.{stock_before}
use Rattle.oe_rows.specs.Before.{with_warehouse, with_district, with_customer, with_order, with_order_line, with_stock}
use Rattle.oe_rows.specs.declared.keys.Key.{Key}
use Rattle.oe_rows.specs.declared.keys.Key.TheVariants as key
use Rattle.oe_rows.specs.declared.layouts.Layout.{Layout}
use Rattle.oe_rows.specs.declared.layouts.Layout.TheVariants.{WholeRows, ChangedColumns}
use Rattle.oe_rows.specs.declared.rows.Row.{Row}
use Rattle.oe_rows.specs.declared.rows.Row.TheVariants as row
use Rattle.oe_model.specs.Rows.{Rows, with_row, as_warehouse, as_district, as_customer, as_history, as_new_order}
use Rattle.oe_model.specs.Rows.{as_order, as_order_line, as_stock}

-- a change of one row, of those that transactions make
pub data Change : Type 0 where
  InsertHistory : HistoryKey → History → Change
  InsertNewOrder : NewOrderKey → NewOrder → Change
  InsertOrder : OrderKey → Order → Change
  InsertOrderLine : OrderLineKey → OrderLine → Change
  UpdateWarehouse : WarehouseKey → Warehouse → Change
  UpdateDistrict : DistrictKey → District → Change
  UpdateCustomer : CustomerKey → Customer → Change
  UpdateOrder : OrderKey → Order → Change
  UpdateOrderLine : OrderLineKey → OrderLine → Change
  UpdateStock : StockKey → Stock → Change
  DeleteNewOrder : NewOrderKey → Change

-- the key that it changes
abbrev pub key_of : Change → Key
key_of (InsertHistory k x) = key.History k
key_of (InsertNewOrder k x) = key.NewOrder k
key_of (InsertOrder k x) = key.Order k
key_of (InsertOrderLine k x) = key.OrderLine k
key_of (UpdateWarehouse k x) = key.Warehouse k
key_of (UpdateDistrict k x) = key.District k
key_of (UpdateCustomer k x) = key.Customer k
key_of (UpdateOrder k x) = key.Order k
key_of (UpdateOrderLine k x) = key.OrderLine k
key_of (UpdateStock k x) = key.Stock k
key_of (DeleteNewOrder k) = key.NewOrder k

-- the row that it leaves there, if any
abbrev pub row_of : Change → Option Row
row_of (InsertHistory k x) = Some (row.History x)
row_of (InsertNewOrder k x) = Some (row.NewOrder x)
row_of (InsertOrder k x) = Some (row.Order x)
row_of (InsertOrderLine k x) = Some (row.OrderLine x)
row_of (UpdateWarehouse k x) = Some (row.Warehouse x)
row_of (UpdateDistrict k x) = Some (row.District x)
row_of (UpdateCustomer k x) = Some (row.Customer x)
row_of (UpdateOrder k x) = Some (row.Order x)
row_of (UpdateOrderLine k x) = Some (row.OrderLine x)
row_of (UpdateStock k x) = Some (row.Stock x)
row_of (DeleteNewOrder k) = None

-- the tables after it
abbrev pub rows_after : Change → Rows → Rows
rows_after (InsertHistory k x) r = record r { histories = insert r.histories k x }
rows_after (InsertNewOrder k x) r = record r { new_orders = insert r.new_orders k x }
rows_after (InsertOrder k x) r = record r { orders = insert r.orders k x }
rows_after (InsertOrderLine k x) r = record r { order_lines = insert r.order_lines k x }
rows_after (UpdateWarehouse k x) r = record r { warehouses = insert r.warehouses k x }
rows_after (UpdateDistrict k x) r = record r { districts = insert r.districts k x }
rows_after (UpdateCustomer k x) r = record r { customers = insert r.customers k x }
rows_after (UpdateOrder k x) r = record r { orders = insert r.orders k x }
rows_after (UpdateOrderLine k x) r = record r { order_lines = insert r.order_lines k x }
rows_after (UpdateStock k x) r = record r { stocks = insert r.stocks k x }
rows_after (DeleteNewOrder k) r = record r { new_orders = remove r.new_orders k }

-- an undo record: what was done, at which key, and the row before, if any; of an update the whole row, or of each
-- column that the update changed its value before
pub data Record : Type 0 where
  InsertedHistory : HistoryKey → Option History → Record
  InsertedNewOrder : NewOrderKey → Option NewOrder → Record
  InsertedOrder : OrderKey → Option Order → Record
  InsertedOrderLine : OrderLineKey → Option OrderLine → Record
  UpdatedWarehouse : WarehouseKey → Option Warehouse → Record
  UpdatedDistrict : DistrictKey → Option District → Record
  UpdatedCustomer : CustomerKey → Option Customer → Record
  UpdatedOrder : OrderKey → Option Order → Record
  UpdatedOrderLine : OrderLineKey → Option OrderLine → Record
  UpdatedStock : StockKey → Option Stock → Record
  DeletedNewOrder : NewOrderKey → Option NewOrder → Record
  ChangedWarehouse : WarehouseKey → Option WarehouseBefore → Record
  ChangedDistrict : DistrictKey → Option DistrictBefore → Record
  ChangedCustomer : CustomerKey → Option CustomerBefore → Record
  ChangedOrder : OrderKey → Option OrderBefore → Record
  ChangedOrderLine : OrderLineKey → Option OrderLineBefore → Record
  ChangedStock : StockKey → Option StockBefore → Record

-- a record that an accepted change makes: an insert has no row before, an update and a delete have one
abbrev pub IsRecord : Record → Type 0
IsRecord (InsertedHistory k v) = v ≡ None
IsRecord (InsertedNewOrder k v) = v ≡ None
IsRecord (InsertedOrder k v) = v ≡ None
IsRecord (InsertedOrderLine k v) = v ≡ None
IsRecord (UpdatedWarehouse k v) = IsSome v
IsRecord (UpdatedDistrict k v) = IsSome v
IsRecord (UpdatedCustomer k v) = IsSome v
IsRecord (UpdatedOrder k v) = IsSome v
IsRecord (UpdatedOrderLine k v) = IsSome v
IsRecord (UpdatedStock k v) = IsSome v
IsRecord (DeletedNewOrder k v) = IsSome v
IsRecord (ChangedWarehouse k v) = IsSome v
IsRecord (ChangedDistrict k v) = IsSome v
IsRecord (ChangedCustomer k v) = IsSome v
IsRecord (ChangedOrder k v) = IsSome v
IsRecord (ChangedOrderLine k v) = IsSome v
IsRecord (ChangedStock k v) = IsSome v

-- the record of a change that has the whole row before
abbrev pub record_of : Change → Option Row → Record
record_of (InsertHistory k x) v = InsertedHistory k (option_and_then as_history v)
record_of (InsertNewOrder k x) v = InsertedNewOrder k (option_and_then as_new_order v)
record_of (InsertOrder k x) v = InsertedOrder k (option_and_then as_order v)
record_of (InsertOrderLine k x) v = InsertedOrderLine k (option_and_then as_order_line v)
record_of (UpdateWarehouse k x) v = UpdatedWarehouse k (option_and_then as_warehouse v)
record_of (UpdateDistrict k x) v = UpdatedDistrict k (option_and_then as_district v)
record_of (UpdateCustomer k x) v = UpdatedCustomer k (option_and_then as_customer v)
record_of (UpdateOrder k x) v = UpdatedOrder k (option_and_then as_order v)
record_of (UpdateOrderLine k x) v = UpdatedOrderLine k (option_and_then as_order_line v)
record_of (UpdateStock k x) v = UpdatedStock k (option_and_then as_stock v)
record_of (DeleteNewOrder k) v = DeletedNewOrder k (option_and_then as_new_order v)

-- of each column that an update changes its value before, by the row before and the row after
abbrev pub columns_before : {X C : Type 0} → (X → X → C) → (Row → Option X) → Option Row → X → Option C
columns_before before as_own v x = option_map (λ y. before y x) (option_and_then as_own v)

-- the record of a change that has of an update the columns that change
abbrev pub changed_of : Change → Option Row → Record
changed_of (UpdateWarehouse k x) v = ChangedWarehouse k (columns_before warehouse_before as_warehouse v x)
changed_of (UpdateDistrict k x) v = ChangedDistrict k (columns_before district_before as_district v x)
changed_of (UpdateCustomer k x) v = ChangedCustomer k (columns_before customer_before as_customer v x)
changed_of (UpdateOrder k x) v = ChangedOrder k (columns_before order_before as_order v x)
changed_of (UpdateOrderLine k x) v = ChangedOrderLine k (columns_before order_line_before as_order_line v x)
changed_of (UpdateStock k x) v = ChangedStock k (columns_before stock_before as_stock v x)
changed_of c v = record_of c v

-- the record of a change in a layout
abbrev pub record_in : Layout → Change → Option Row → Record
record_in WholeRows c v = record_of c v
record_in ChangedColumns c v = changed_of c v

-- a record's key
abbrev pub record_key : Record → Key
record_key (InsertedHistory k v) = key.History k
record_key (InsertedNewOrder k v) = key.NewOrder k
record_key (InsertedOrder k v) = key.Order k
record_key (InsertedOrderLine k v) = key.OrderLine k
record_key (UpdatedWarehouse k v) = key.Warehouse k
record_key (UpdatedDistrict k v) = key.District k
record_key (UpdatedCustomer k v) = key.Customer k
record_key (UpdatedOrder k v) = key.Order k
record_key (UpdatedOrderLine k v) = key.OrderLine k
record_key (UpdatedStock k v) = key.Stock k
record_key (DeletedNewOrder k v) = key.NewOrder k
record_key (ChangedWarehouse k v) = key.Warehouse k
record_key (ChangedDistrict k v) = key.District k
record_key (ChangedCustomer k v) = key.Customer k
record_key (ChangedOrder k v) = key.Order k
record_key (ChangedOrderLine k v) = key.OrderLine k
record_key (ChangedStock k v) = key.Stock k

-- the row that stands with columns of the row before put back, where both are there
abbrev pub with_columns : {C X : Type 0} → (C → X → X) → Option C → Option X → Option X
with_columns put None now = None
with_columns put (Some c) None = None
with_columns put (Some c) (Some x) = Some (put c x)

-- the row before, as one of any table, by the row that stands there
abbrev pub restore : Record → Option Row → Option Row
restore (InsertedHistory k v) now = option_map row.History v
restore (InsertedNewOrder k v) now = option_map row.NewOrder v
restore (InsertedOrder k v) now = option_map row.Order v
restore (InsertedOrderLine k v) now = option_map row.OrderLine v
restore (UpdatedWarehouse k v) now = option_map row.Warehouse v
restore (UpdatedDistrict k v) now = option_map row.District v
restore (UpdatedCustomer k v) now = option_map row.Customer v
restore (UpdatedOrder k v) now = option_map row.Order v
restore (UpdatedOrderLine k v) now = option_map row.OrderLine v
restore (UpdatedStock k v) now = option_map row.Stock v
restore (DeletedNewOrder k v) now = option_map row.NewOrder v
restore (ChangedWarehouse k v) now =
    option_map row.Warehouse (with_columns with_warehouse v (option_and_then as_warehouse now))
restore (ChangedDistrict k v) now =
    option_map row.District (with_columns with_district v (option_and_then as_district now))
restore (ChangedCustomer k v) now =
    option_map row.Customer (with_columns with_customer v (option_and_then as_customer now))
restore (ChangedOrder k v) now = option_map row.Order (with_columns with_order v (option_and_then as_order now))
restore (ChangedOrderLine k v) now =
    option_map row.OrderLine (with_columns with_order_line v (option_and_then as_order_line now))
restore (ChangedStock k v) now = option_map row.Stock (with_columns with_stock v (option_and_then as_stock now))

-- the tables with the row before put back
abbrev pub put_back : Record → Rows → Rows
put_back (InsertedHistory k v) r = record r { histories = with_row k v r.histories }
put_back (InsertedNewOrder k v) r = record r { new_orders = with_row k v r.new_orders }
put_back (InsertedOrder k v) r = record r { orders = with_row k v r.orders }
put_back (InsertedOrderLine k v) r = record r { order_lines = with_row k v r.order_lines }
put_back (UpdatedWarehouse k v) r = record r { warehouses = with_row k v r.warehouses }
put_back (UpdatedDistrict k v) r = record r { districts = with_row k v r.districts }
put_back (UpdatedCustomer k v) r = record r { customers = with_row k v r.customers }
put_back (UpdatedOrder k v) r = record r { orders = with_row k v r.orders }
put_back (UpdatedOrderLine k v) r = record r { order_lines = with_row k v r.order_lines }
put_back (UpdatedStock k v) r = record r { stocks = with_row k v r.stocks }
put_back (DeletedNewOrder k v) r = record r { new_orders = with_row k v r.new_orders }
put_back (ChangedWarehouse k v) r =
    record r { warehouses = with_row k (with_columns with_warehouse v (get r.warehouses k)) r.warehouses }
put_back (ChangedDistrict k v) r =
    record r { districts = with_row k (with_columns with_district v (get r.districts k)) r.districts }
put_back (ChangedCustomer k v) r =
    record r { customers = with_row k (with_columns with_customer v (get r.customers k)) r.customers }
put_back (ChangedOrder k v) r = record r { orders = with_row k (with_columns with_order v (get r.orders k)) r.orders }
put_back (ChangedOrderLine k v) r =
    record r { order_lines = with_row k (with_columns with_order_line v (get r.order_lines k)) r.order_lines }
put_back (ChangedStock k v) r = record r { stocks = with_row k (with_columns with_stock v (get r.stocks k)) r.stocks }

-- the change that the record is of, found again where the row that it left still stands
abbrev pub redo : Record → Rows → Option Change
redo (InsertedHistory k v) r = option_map (InsertHistory k) (get r.histories k)
redo (InsertedNewOrder k v) r = option_map (InsertNewOrder k) (get r.new_orders k)
redo (InsertedOrder k v) r = option_map (InsertOrder k) (get r.orders k)
redo (InsertedOrderLine k v) r = option_map (InsertOrderLine k) (get r.order_lines k)
redo (UpdatedWarehouse k v) r = option_map (UpdateWarehouse k) (get r.warehouses k)
redo (UpdatedDistrict k v) r = option_map (UpdateDistrict k) (get r.districts k)
redo (UpdatedCustomer k v) r = option_map (UpdateCustomer k) (get r.customers k)
redo (UpdatedOrder k v) r = option_map (UpdateOrder k) (get r.orders k)
redo (UpdatedOrderLine k v) r = option_map (UpdateOrderLine k) (get r.order_lines k)
redo (UpdatedStock k v) r = option_map (UpdateStock k) (get r.stocks k)
redo (DeletedNewOrder k v) r = Some (DeleteNewOrder k)
redo (ChangedWarehouse k v) r = option_map (UpdateWarehouse k) (get r.warehouses k)
redo (ChangedDistrict k v) r = option_map (UpdateDistrict k) (get r.districts k)
redo (ChangedCustomer k v) r = option_map (UpdateCustomer k) (get r.customers k)
redo (ChangedOrder k v) r = option_map (UpdateOrder k) (get r.orders k)
redo (ChangedOrderLine k v) r = option_map (UpdateOrderLine k) (get r.order_lines k)
redo (ChangedStock k v) r = option_map (UpdateStock k) (get r.stocks k)
