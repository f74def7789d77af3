-- Undo records where they lie as bytes.
use Rattle.std.specs.Prelude.{◌≡◌, ℕ, List, Option, Some, None, option_map, option_and_then}
use Rattle.oe_rows.specs.declared.keys.Key.{Key}
use Rattle.oe_rows.specs.declared.keys.Key.TheVariants as key
use Rattle.oe_rows.specs.declared.keys.CustomerKey.{CustomerKey}
use Rattle.oe_rows.specs.declared.keys.NewOrderKey.{NewOrderKey}
use Rattle.oe_rows.specs.declared.keys.Table.{Table}
use Rattle.oe_rows.specs.declared.keys.Table.TheVariants as table
use Rattle.oe_model.specs.Changes as model
use Rattle.oe_layout.specs.Links.{IsPrevious}
use Rattle.oe_layout.specs.Records.{record_image, record_of_own, IsInRanges}
use Rattle.oe_layout.specs.RecordFronts.{record_at}
use Rattle.oe_layout.specs.declared.links.Previous.{Previous}
use Rattle.oe_layout.specs.declared.kinds.RecordKind.{RecordKind}
use Rattle.oe_layout.specs.declared.kinds.RecordKind.TheVariants as kind
use Rattle.oe_layout.specs.declared.records.OwnRecord.{OwnRecord}

-- the bytes are the image of a record in its ranges
pub record IsStoredRecord (bytes : List ℕ) : Type 0 where
  pub previous : Previous
  pub before : OwnRecord
  pub link : IsPrevious previous
  pub ranges : IsInRanges (record_of_own before)
  pub image : bytes ≡ record_image previous (record_of_own before)

-- what was read; where nothing was, any record
abbrev pub record_stored : Option (Previous × OwnRecord) → model.Record
record_stored None = model.InsertedHistory (record { terminal = 0; number = 0; ordinal = 1 }) None
record_stored (Some x) = record_of_own x.1

-- the record that stored bytes tell
abbrev pub record_in_bytes : List ℕ → model.Record
record_in_bytes bytes = record_stored (record_at bytes)

-- this is the record whose image the bytes are
abbrev pub IsTold : List ℕ → model.Record → Type 0
IsTold bytes record_told =
    (p : Previous) (b : OwnRecord) → IsPrevious p → IsInRanges (record_of_own b)
    → bytes ≡ record_image p (record_of_own b) → record_told ≡ record_of_own b

-- these are the link and the record whose image the bytes are
abbrev pub IsToldLinked : List ℕ → Previous × model.Record → Type 0
IsToldLinked bytes told_linked =
    (p : Previous) (b : OwnRecord) → IsPrevious p → IsInRanges (record_of_own b)
    → bytes ≡ record_image p (record_of_own b) → told_linked ≡ (p, record_of_own b)

-- the table whose row was changed
abbrev pub table_changed : RecordKind → Table
table_changed kind.InsertedHistory = table.History
table_changed kind.InsertedNewOrder = table.NewOrder
table_changed kind.InsertedOrder = table.Order
table_changed kind.InsertedOrderLine = table.OrderLine
table_changed kind.UpdatedWarehouse = table.Warehouse
table_changed kind.UpdatedDistrict = table.District
table_changed kind.UpdatedCustomer = table.Customer
table_changed kind.UpdatedOrder = table.Order
table_changed kind.UpdatedOrderLine = table.OrderLine
table_changed kind.UpdatedStock = table.Stock
table_changed kind.DeletedNewOrder = table.NewOrder
table_changed kind.ChangedWarehouse = table.Warehouse
table_changed kind.ChangedDistrict = table.District
table_changed kind.ChangedCustomer = table.Customer
table_changed kind.ChangedOrder = table.Order
table_changed kind.ChangedOrderLine = table.OrderLine
table_changed kind.ChangedStock = table.Stock

-- the key of the queue entry that was deleted, where the record is of a delete
abbrev pub deleted_new_order : model.Record → Option NewOrderKey
deleted_new_order (model.DeletedNewOrder k v) = Some k
deleted_new_order b = None

-- the customer whose C_LAST before the change a record tells, with that name
abbrev pub last_before : model.Record → Option (CustomerKey × List ℕ)
last_before (model.UpdatedCustomer k v) = option_map (λ x. (k, x.name.last)) v
last_before (model.ChangedCustomer k v) = option_and_then (λ x. option_map (λ last. (k, last)) x.name.last) v
last_before b = None

-- the key of a queue entry, where a record of that kind is of its delete
abbrev pub queue_key : Key → Option NewOrderKey
queue_key (key.NewOrder k) = Some k
queue_key k = None

abbrev pub deleted_key : RecordKind → Key → Option NewOrderKey
deleted_key kind.DeletedNewOrder k = queue_key k
deleted_key done k = None
