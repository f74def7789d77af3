-- A change as one of the model.
use Rattle.oe_model.specs.Changes as model
use Rattle.oe_change.specs.declared.changes.Change.{Change}
use Rattle.oe_change.specs.declared.changes.Change.TheVariants.{InsertHistory, InsertNewOrder, InsertOrder}
use Rattle.oe_change.specs.declared.changes.Change.TheVariants.{InsertOrderLine, UpdateWarehouse, UpdateDistrict}
use Rattle.oe_change.specs.declared.changes.Change.TheVariants.{UpdateCustomer, UpdateOrder, UpdateOrderLine}
use Rattle.oe_change.specs.declared.changes.Change.TheVariants.{UpdateStock, DeleteNewOrder}

-- a NEW-ORDER row has no column but its key
abbrev pub change_of : Change → model.Change
change_of (InsertHistory k x) = model.InsertHistory k x
change_of (InsertNewOrder k) = model.InsertNewOrder k (record {})
change_of (InsertOrder k x) = model.InsertOrder k x
change_of (InsertOrderLine k x) = model.InsertOrderLine k x
change_of (UpdateWarehouse k x) = model.UpdateWarehouse k x
change_of (UpdateDistrict k x) = model.UpdateDistrict k x
change_of (UpdateCustomer k x) = model.UpdateCustomer k x
change_of (UpdateOrder k x) = model.UpdateOrder k x
change_of (UpdateOrderLine k x) = model.UpdateOrderLine k x
change_of (UpdateStock k x) = model.UpdateStock k x
change_of (DeleteNewOrder k) = model.DeleteNewOrder k
