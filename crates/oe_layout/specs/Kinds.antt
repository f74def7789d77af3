-- What was done, and in which table, as two numbers.
use Rattle.std.specs.Prelude.{◌==◌, ℕ, List, ◌++◌, Bool, true, false, Option, Some, None, if◌then◌else◌}
use Rattle.oe_extent.specs.Images.{number, number_at}
use Rattle.oe_decode.specs.Fronts.{pair_at}
use Rattle.oe_layout.specs.Links.{read_as}
use Rattle.oe_model.specs.Changes as model
use Rattle.oe_rows.specs.declared.layouts.Layout.{Layout}
use Rattle.oe_rows.specs.declared.layouts.Layout.TheVariants.{WholeRows, ChangedColumns}
use Rattle.oe_layout.specs.declared.kinds.RecordKind.{RecordKind}
use Rattle.oe_layout.specs.declared.kinds.RecordKind.TheVariants.{InsertedHistory, InsertedNewOrder, InsertedOrder}
use Rattle.oe_layout.specs.declared.kinds.RecordKind.TheVariants.{InsertedOrderLine, UpdatedWarehouse, UpdatedDistrict}
use Rattle.oe_layout.specs.declared.kinds.RecordKind.TheVariants.{UpdatedCustomer, UpdatedOrder, UpdatedOrderLine}
use Rattle.oe_layout.specs.declared.kinds.RecordKind.TheVariants.{UpdatedStock, DeletedNewOrder, ChangedWarehouse}
use Rattle.oe_layout.specs.declared.kinds.RecordKind.TheVariants.{ChangedDistrict, ChangedCustomer, ChangedOrder}
use Rattle.oe_layout.specs.declared.kinds.RecordKind.TheVariants.{ChangedOrderLine, ChangedStock}

-- 1 inserted, 2 updated, 3 deleted, 4 columns of an update; and the table, of the nine in the order of clause 1.3.1,
-- from 1 on
abbrev pub kind_numbers : RecordKind → ℕ × ℕ
kind_numbers InsertedHistory = (1, 4)
kind_numbers InsertedNewOrder = (1, 5)
kind_numbers InsertedOrder = (1, 6)
kind_numbers InsertedOrderLine = (1, 7)
kind_numbers UpdatedWarehouse = (2, 1)
kind_numbers UpdatedDistrict = (2, 2)
kind_numbers UpdatedCustomer = (2, 3)
kind_numbers UpdatedOrder = (2, 6)
kind_numbers UpdatedOrderLine = (2, 7)
kind_numbers UpdatedStock = (2, 9)
kind_numbers DeletedNewOrder = (3, 5)
kind_numbers ChangedWarehouse = (4, 1)
kind_numbers ChangedDistrict = (4, 2)
kind_numbers ChangedCustomer = (4, 3)
kind_numbers ChangedOrder = (4, 6)
kind_numbers ChangedOrderLine = (4, 7)
kind_numbers ChangedStock = (4, 9)

-- 1 byte each
abbrev pub kind_image : RecordKind → List ℕ
kind_image k = number 1 (kind_numbers k).0 ++ number 1 (kind_numbers k).1

-- the kind of a record
abbrev pub kind_of : model.Record → RecordKind
kind_of (model.InsertedHistory k v) = InsertedHistory
kind_of (model.InsertedNewOrder k v) = InsertedNewOrder
kind_of (model.InsertedOrder k v) = InsertedOrder
kind_of (model.InsertedOrderLine k v) = InsertedOrderLine
kind_of (model.UpdatedWarehouse k v) = UpdatedWarehouse
kind_of (model.UpdatedDistrict k v) = UpdatedDistrict
kind_of (model.UpdatedCustomer k v) = UpdatedCustomer
kind_of (model.UpdatedOrder k v) = UpdatedOrder
kind_of (model.UpdatedOrderLine k v) = UpdatedOrderLine
kind_of (model.UpdatedStock k v) = UpdatedStock
kind_of (model.DeletedNewOrder k v) = DeletedNewOrder
kind_of (model.ChangedWarehouse k v) = ChangedWarehouse
kind_of (model.ChangedDistrict k v) = ChangedDistrict
kind_of (model.ChangedCustomer k v) = ChangedCustomer
kind_of (model.ChangedOrder k v) = ChangedOrder
kind_of (model.ChangedOrderLine k v) = ChangedOrderLine
kind_of (model.ChangedStock k v) = ChangedStock

-- a layout has no record of the other's updates
abbrev pub is_kind_of : Layout → RecordKind → Bool
is_kind_of WholeRows ChangedWarehouse = false
is_kind_of WholeRows ChangedDistrict = false
is_kind_of WholeRows ChangedCustomer = false
is_kind_of WholeRows ChangedOrder = false
is_kind_of WholeRows ChangedOrderLine = false
is_kind_of WholeRows ChangedStock = false
is_kind_of WholeRows k = true
is_kind_of ChangedColumns UpdatedWarehouse = false
is_kind_of ChangedColumns UpdatedDistrict = false
is_kind_of ChangedColumns UpdatedCustomer = false
is_kind_of ChangedColumns UpdatedOrder = false
is_kind_of ChangedColumns UpdatedOrderLine = false
is_kind_of ChangedColumns UpdatedStock = false
is_kind_of ChangedColumns k = true

-- ---- read

abbrev pub inserted_in : ℕ → Option RecordKind
inserted_in table =
    if table == 4 then Some InsertedHistory
    else (if table == 5 then Some InsertedNewOrder
    else (if table == 6 then Some InsertedOrder
    else (if table == 7 then Some InsertedOrderLine else None)))

abbrev pub updated_in : ℕ → Option RecordKind
updated_in table =
    if table == 1 then Some UpdatedWarehouse
    else (if table == 2 then Some UpdatedDistrict
    else (if table == 3 then Some UpdatedCustomer
    else (if table == 6 then Some UpdatedOrder
    else (if table == 7 then Some UpdatedOrderLine
    else (if table == 9 then Some UpdatedStock else None)))))

abbrev pub deleted_in : ℕ → Option RecordKind
deleted_in table = if table == 5 then Some DeletedNewOrder else None

abbrev pub changed_in : ℕ → Option RecordKind
changed_in table =
    if table == 1 then Some ChangedWarehouse
    else (if table == 2 then Some ChangedDistrict
    else (if table == 3 then Some ChangedCustomer
    else (if table == 6 then Some ChangedOrder
    else (if table == 7 then Some ChangedOrderLine
    else (if table == 9 then Some ChangedStock else None)))))

abbrev pub kind_of_numbers : ℕ × ℕ → Option RecordKind
kind_of_numbers n =
    if n.0 == 1 then inserted_in n.1
    else (if n.0 == 2 then updated_in n.1
    else (if n.0 == 3 then deleted_in n.1
    else (if n.0 == 4 then changed_in n.1 else None)))

unfoldable pub kind_at : List ℕ → Option (RecordKind × List ℕ)
kind_at bytes = read_as kind_of_numbers (pair_at (number_at 1) (number_at 1) bytes)
