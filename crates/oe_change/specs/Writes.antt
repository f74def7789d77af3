-- A write as a change of the model.
use Rattle.std.specs.Prelude.{Option, Some, option_map}
use Rattle.std.specs.FinMap.{get}
use Rattle.oe_rows.specs.declared.keys.Key.{Key}
use Rattle.oe_rows.specs.declared.keys.Key.TheVariants as key
use Rattle.oe_rows.specs.Credit.{with_entry}
use Rattle.oe_rows.specs.Item.{with_counters}
use Rattle.oe_model.specs.Rows.{Rows}
use Rattle.oe_model.specs.Changes as model
use Rattle.oe_model.specs.Rename.{with_names}
use Rattle.oe_change.specs.declared.writes.Write.{Write}
use Rattle.oe_change.specs.declared.writes.Write.TheVariants.{WarehouseYtd, DistrictYtd, NextOrder, CustomerAccount}
use Rattle.oe_change.specs.declared.writes.Write.TheVariants.{BadCredit, CustomerNames, StockCounters, Carrier}
use Rattle.oe_change.specs.declared.writes.Write.TheVariants.{DeliveryDate, InsertHistory, InsertNewOrder, InsertOrder}
use Rattle.oe_change.specs.declared.writes.Write.TheVariants.{InsertOrderLine, DeleteNewOrder}

-- the key of the row that it changes
abbrev pub key_written : Write → Key
key_written (WarehouseYtd k y) = key.Warehouse k
key_written (DistrictYtd k y) = key.District k
key_written (NextOrder k n) = key.District k
key_written (CustomerAccount k a) = key.Customer k
key_written (BadCredit k a e) = key.Customer k
key_written (CustomerNames k l f) = key.Customer k
key_written (StockCounters k n) = key.Stock k
key_written (Carrier k c) = key.Order k
key_written (DeliveryDate k t) = key.OrderLine k
key_written (InsertHistory k x) = key.History k
key_written (InsertNewOrder k) = key.NewOrder k
key_written (InsertOrder k x) = key.Order k
key_written (InsertOrderLine k x) = key.OrderLine k
key_written (DeleteNewOrder k) = key.NewOrder k

-- the change that it is of these rows: an update's row is the one that is there with the columns set, and where none is
-- there it is no change
abbrev pub change_of : Write → Rows → Option model.Change
change_of (WarehouseYtd k y) r = option_map (λ w. model.UpdateWarehouse k (record w { ytd = y })) (get r.warehouses k)
change_of (DistrictYtd k y) r = option_map (λ d. model.UpdateDistrict k (record d { ytd = y })) (get r.districts k)
change_of (NextOrder k n) r = option_map (λ d. model.UpdateDistrict k (record d { next_order = n })) (get r.districts k)
change_of (CustomerAccount k a) r = option_map (λ c. model.UpdateCustomer k (record c { account = a }))
    (get r.customers k)
change_of (BadCredit k a e) r = option_map (λ c. model.UpdateCustomer k (with_entry a e c)) (get r.customers k)
change_of (CustomerNames k l f) r = option_map (λ c. model.UpdateCustomer k (with_names l f c)) (get r.customers k)
change_of (StockCounters k n) r = option_map (λ s. model.UpdateStock k (with_counters n s)) (get r.stocks k)
change_of (Carrier k c) r = option_map (λ o. model.UpdateOrder k (record o { carrier = Some c })) (get r.orders k)
change_of (DeliveryDate k t) r = option_map (λ l. model.UpdateOrderLine k (record l { delivery = Some t }))
    (get r.order_lines k)
change_of (InsertHistory k x) r = Some (model.InsertHistory k x)
change_of (InsertNewOrder k) r = Some (model.InsertNewOrder k (record {}))
change_of (InsertOrder k x) r = Some (model.InsertOrder k x)
change_of (InsertOrderLine k x) r = Some (model.InsertOrderLine k x)
change_of (DeleteNewOrder k) r = Some (model.DeleteNewOrder k)
