-- The record that bytes are the image of.
use Rattle.std.specs.Prelude.{◌≡◌, ◌==◌, ◌&&◌, ℕ, List, length, Option, Some, None, if◌then◌else◌}
use Rattle.oe_extent.specs.declared.sizes.TheConstants.{LENGTH_BYTES}
use Rattle.oe_extent.specs.Images.{number_at}
use Rattle.oe_decode.specs.Fronts.{◌>>=◌, front_as, pair_at}
use Rattle.oe_decode.specs.KeyFronts.{history_key_at, new_order_key_at, order_key_at, order_line_key_at}
use Rattle.oe_decode.specs.KeyFronts.{warehouse_key_at, district_key_at, customer_key_at, stock_key_at}
use Rattle.oe_decode.specs.RowFronts.{warehouse_at, district_at, customer_at, order_at, order_line_at, stock_at}
use Rattle.oe_decode.specs.BeforeFronts.{warehouse_before_at, district_before_at, customer_before_at, order_before_at}
use Rattle.oe_decode.specs.BeforeFronts.{order_line_before_at, stock_before_at}
use Rattle.oe_rows.specs.declared.layouts.Layout.{Layout}
use Rattle.oe_layout.specs.Links.{previous_at, IsPrevious}
use Rattle.oe_layout.specs.Kinds.{kind_at}
use Rattle.oe_layout.specs.Records.{record_image, record_of_own, IsInRanges, IsOfLayout}
use Rattle.oe_layout.specs.declared.links.Previous.{Previous}
use Rattle.oe_layout.specs.declared.kinds.RecordKind.{RecordKind}
use Rattle.oe_layout.specs.declared.kinds.RecordKind.TheVariants as kind
use Rattle.oe_layout.specs.declared.records.OwnRecord.{OwnRecord}
use Rattle.oe_layout.specs.declared.records.OwnRecord.TheVariants as own

-- the key at the front, and what a record of that kind has of the row before behind it, if anything
abbrev pub contents_at : RecordKind → List ℕ → Option (OwnRecord × List ℕ)
contents_at kind.InsertedHistory bytes = front_as (λ k. own.InsertedHistory k) (history_key_at bytes)
contents_at kind.InsertedNewOrder bytes =
    front_as (λ k. own.InsertedNewOrder k) (new_order_key_at bytes)
contents_at kind.InsertedOrder bytes = front_as (λ k. own.InsertedOrder k) (order_key_at bytes)
contents_at kind.InsertedOrderLine bytes =
    front_as (λ k. own.InsertedOrderLine k) (order_line_key_at bytes)
contents_at kind.UpdatedWarehouse bytes =
    front_as (λ p. own.UpdatedWarehouse p.0 p.1) (pair_at warehouse_key_at warehouse_at bytes)
contents_at kind.UpdatedDistrict bytes =
    front_as (λ p. own.UpdatedDistrict p.0 p.1) (pair_at district_key_at district_at bytes)
contents_at kind.UpdatedCustomer bytes =
    front_as (λ p. own.UpdatedCustomer p.0 p.1) (pair_at customer_key_at customer_at bytes)
contents_at kind.UpdatedOrder bytes =
    front_as (λ p. own.UpdatedOrder p.0 p.1) (pair_at order_key_at order_at bytes)
contents_at kind.UpdatedOrderLine bytes =
    front_as (λ p. own.UpdatedOrderLine p.0 p.1) (pair_at order_line_key_at order_line_at bytes)
contents_at kind.UpdatedStock bytes =
    front_as (λ p. own.UpdatedStock p.0 p.1) (pair_at stock_key_at stock_at bytes)
contents_at kind.DeletedNewOrder bytes = front_as (λ k. own.DeletedNewOrder k) (new_order_key_at bytes)
contents_at kind.ChangedWarehouse bytes =
    front_as (λ p. own.ChangedWarehouse p.0 p.1) (pair_at warehouse_key_at warehouse_before_at bytes)
contents_at kind.ChangedDistrict bytes =
    front_as (λ p. own.ChangedDistrict p.0 p.1) (pair_at district_key_at district_before_at bytes)
contents_at kind.ChangedCustomer bytes =
    front_as (λ p. own.ChangedCustomer p.0 p.1) (pair_at customer_key_at customer_before_at bytes)
contents_at kind.ChangedOrder bytes =
    front_as (λ p. own.ChangedOrder p.0 p.1) (pair_at order_key_at order_before_at bytes)
contents_at kind.ChangedOrderLine bytes =
    front_as (λ p. own.ChangedOrderLine p.0 p.1) (pair_at order_line_key_at order_line_before_at bytes)
contents_at kind.ChangedStock bytes =
    front_as (λ p. own.ChangedStock p.0 p.1) (pair_at stock_key_at stock_before_at bytes)

-- what stands between the two lengths
unfoldable pub body_at : List ℕ → Option ((Previous × OwnRecord) × List ℕ)
body_at bytes =
    kind_at bytes >>= λ k. previous_at k.1 >>= λ p. contents_at k.0 p.1 >>= λ b.
    Some ((p.0, b.0), b.1)

-- what was read, where both lengths are this one and nothing follows
abbrev pub framed_by : ℕ → Option ((ℕ × ((Previous × OwnRecord) × ℕ)) × List ℕ)
    → Option (Previous × OwnRecord)
framed_by size None = None
framed_by size (Some x) =
    if (x.0.0 == size && x.0.1.1 == size) && length x.1 == 0 then Some x.0.1.0 else None

unfoldable pub record_at : List ℕ → Option (Previous × OwnRecord)
record_at bytes =
    framed_by (length bytes) (pair_at (number_at LENGTH_BYTES) (pair_at body_at (number_at LENGTH_BYTES)) bytes)

-- The bytes are the image of a record of the layout that is in its ranges: then it is read. Nothing else is read.
pub record ReadsRecord (layout : Layout) (bytes : List ℕ) (result : Option (Previous × OwnRecord)) : Type 0 where
  pub found : (p : Previous) (b : OwnRecord) → result ≡ Some (p, b)
      → IsPrevious p × IsInRanges (record_of_own b) × (bytes ≡ record_image p (record_of_own b))
      × IsOfLayout layout (record_of_own b)
  pub finds : (p : Previous) (b : OwnRecord) → IsPrevious p → IsInRanges (record_of_own b)
      → IsOfLayout layout (record_of_own b) → bytes ≡ record_image p (record_of_own b) → result ≡ Some (p, b)
