-- Undo records as bytes.
use Rattle.std.specs.Prelude.{ℕ, List, ◌++◌, Option, None, Some, IfSome}
use Rattle.std.specs.Bool.{IsTrue}
use Rattle.std.specs.Option.{option_map}
use Rattle.oe_rows.specs.declared.layouts.Layout.{Layout}
use Rattle.oe_extent.specs.declared.sizes.TheConstants.{LENGTH_BYTES}
use Rattle.oe_extent.specs.Images.{number}
use Rattle.oe_image.specs.Keys.{key_image, IsKey}
use Rattle.oe_image.specs.Rows.{row_image, IsRow}
use Rattle.oe_image.specs.Before.{warehouse_before, district_before, customer_before, order_before, order_line_before}
use Rattle.oe_image.specs.Before.{stock_before}
use Rattle.oe_image.specs.Parts.{warehouse_part, district_part, customer_part, customer_name_part, order_part}
use Rattle.oe_image.specs.Parts.{order_line_part, stock_part}
use Rattle.oe_decode.specs.BeforeRanges.{IsWarehouseBefore, IsDistrictBefore, IsCustomerBefore, IsOrderBefore}
use Rattle.oe_decode.specs.BeforeRanges.{IsOrderLineBefore, IsStockBefore}
use Rattle.oe_model.specs.Changes as model
use Rattle.oe_model.specs.Lengths.{record_length}
use Rattle.oe_layout.specs.Links.{previous_image}
use Rattle.oe_layout.specs.Kinds.{kind_image, kind_of, is_kind_of}
use Rattle.oe_layout.specs.declared.links.Previous.{Previous}
use Rattle.oe_layout.specs.declared.records.OwnRecord.{OwnRecord}
use Rattle.oe_layout.specs.declared.records.OwnRecord.TheVariants as own
use Rattle.oe_layout.specs.declared.loans.LentRecord.{LentRecord}
use Rattle.oe_layout.specs.declared.loans.LentRecord.TheVariants as lent

-- what a record has of the row before, if anything: the whole row, or the columns that changed, behind their mask
abbrev pub before_image : model.Record → Option (List ℕ)
before_image (model.ChangedWarehouse k v) = option_map warehouse_before v
before_image (model.ChangedDistrict k v) = option_map district_before v
before_image (model.ChangedCustomer k v) = option_map customer_before v
before_image (model.ChangedOrder k v) = option_map order_before v
before_image (model.ChangedOrderLine k v) = option_map order_line_before v
before_image (model.ChangedStock k v) = option_map stock_before v
before_image b = option_map row_image (model.restore b None)

-- a record's key and behind it what it has of the row before, if anything
abbrev pub key_and_before : List ℕ → Option (List ℕ) → List ℕ
key_and_before key None = key
key_and_before key (Some before) = key ++ before

abbrev pub contents : model.Record → List ℕ
contents b = key_and_before (key_image (model.record_key b)) (before_image b)

-- what stands between its two lengths
abbrev pub body_image : Previous → model.Record → List ℕ
body_image p b = kind_image (kind_of b) ++ (previous_image p ++ contents b)

-- The image of an undo record: its length, its kind, its link to the previous record, the key, what it has of the row
-- before, and its length again.
abbrev pub record_image : Previous → model.Record → List ℕ
record_image p b =
    number LENGTH_BYTES (record_length b) ++ (body_image p b ++ number LENGTH_BYTES (record_length b))

-- what a record has of the row before is in its ranges: each column that is there
abbrev pub IsBefore : model.Record → Type 0
IsBefore (model.ChangedWarehouse k v) = IfSome v IsWarehouseBefore
IsBefore (model.ChangedDistrict k v) = IfSome v IsDistrictBefore
IsBefore (model.ChangedCustomer k v) = IfSome v IsCustomerBefore
IsBefore (model.ChangedOrder k v) = IfSome v IsOrderBefore
IsBefore (model.ChangedOrderLine k v) = IfSome v IsOrderLineBefore
IsBefore (model.ChangedStock k v) = IfSome v IsStockBefore
IsBefore b = IfSome (model.restore b None) IsRow

-- a record's key, and what it has of the row before, are in their ranges
abbrev pub IsInRanges : model.Record → Type 0
IsInRanges b = IsKey (model.record_key b) × IsBefore b

-- The record may stand in a log of that layout: of whole rows none has changed columns, and of changed columns none
-- has the whole row before an update.
abbrev pub IsOfLayout : Layout → model.Record → Type 0
IsOfLayout layout b = IsTrue (is_kind_of layout (kind_of b))

-- the record of the model that a record with its row stands for
abbrev pub record_of_own : OwnRecord → model.Record
record_of_own (own.InsertedHistory k) = model.InsertedHistory k None
record_of_own (own.InsertedNewOrder k) = model.InsertedNewOrder k None
record_of_own (own.InsertedOrder k) = model.InsertedOrder k None
record_of_own (own.InsertedOrderLine k) = model.InsertedOrderLine k None
record_of_own (own.UpdatedWarehouse k x) = model.UpdatedWarehouse k (Some x)
record_of_own (own.UpdatedDistrict k x) = model.UpdatedDistrict k (Some x)
record_of_own (own.UpdatedCustomer k x) = model.UpdatedCustomer k (Some x)
record_of_own (own.UpdatedOrder k x) = model.UpdatedOrder k (Some x)
record_of_own (own.UpdatedOrderLine k x) = model.UpdatedOrderLine k (Some x)
record_of_own (own.UpdatedStock k x) = model.UpdatedStock k (Some x)
record_of_own (own.DeletedNewOrder k) = model.DeletedNewOrder k (Some (record {}))
record_of_own (own.ChangedWarehouse k c) = model.ChangedWarehouse k (Some c)
record_of_own (own.ChangedDistrict k c) = model.ChangedDistrict k (Some c)
record_of_own (own.ChangedCustomer k c) = model.ChangedCustomer k (Some c)
record_of_own (own.ChangedOrder k c) = model.ChangedOrder k (Some c)
record_of_own (own.ChangedOrderLine k c) = model.ChangedOrderLine k (Some c)
record_of_own (own.ChangedStock k c) = model.ChangedStock k (Some c)

-- the record of the model that a record with a lent row, or a part of one, stands for
abbrev pub record_of_lent : LentRecord → model.Record
record_of_lent (lent.InsertedHistory k) = model.InsertedHistory k None
record_of_lent (lent.InsertedNewOrder k) = model.InsertedNewOrder k None
record_of_lent (lent.InsertedOrder k) = model.InsertedOrder k None
record_of_lent (lent.InsertedOrderLine k) = model.InsertedOrderLine k None
record_of_lent (lent.UpdatedWarehouse k x) = model.UpdatedWarehouse k (Some x.now)
record_of_lent (lent.UpdatedDistrict k x) = model.UpdatedDistrict k (Some x.now)
record_of_lent (lent.UpdatedCustomer k x) = model.UpdatedCustomer k (Some x.now)
record_of_lent (lent.UpdatedOrder k x) = model.UpdatedOrder k (Some x.now)
record_of_lent (lent.UpdatedOrderLine k x) = model.UpdatedOrderLine k (Some x.now)
record_of_lent (lent.UpdatedStock k x) = model.UpdatedStock k (Some x.now)
record_of_lent (lent.DeletedNewOrder k) = model.DeletedNewOrder k (Some (record {}))
record_of_lent (lent.ChangedWarehouse k p) = model.ChangedWarehouse k (Some (warehouse_part p))
record_of_lent (lent.ChangedDistrict k p) = model.ChangedDistrict k (Some (district_part p))
record_of_lent (lent.ChangedCustomer k p) = model.ChangedCustomer k (Some (customer_part p))
record_of_lent (lent.RenamedCustomer k p) = model.ChangedCustomer k (Some (customer_name_part p))
record_of_lent (lent.ChangedOrder k p) = model.ChangedOrder k (Some (order_part p))
record_of_lent (lent.ChangedOrderLine k p) = model.ChangedOrderLine k (Some (order_line_part p))
record_of_lent (lent.ChangedStock k p) = model.ChangedStock k (Some (stock_part p))
