-- The records of writes.
use Rattle.std.specs.Prelude.{Option, None, Some, option_map}
use Rattle.oe_theory.specs.Next.{record_on}
use Rattle.oe_rows.specs.declared.layouts.Layout.{Layout}
use Rattle.oe_model.specs.Rows.{Rows}
use Rattle.oe_model.specs.Changes.{Record, InsertedHistory, InsertedNewOrder, InsertedOrder, InsertedOrderLine}
use Rattle.oe_model.specs.Changes.{DeletedNewOrder}
use Rattle.oe_model.specs.System.{system}
use Rattle.oe_change.specs.declared.writes.Write.{Write}
use Rattle.oe_change.specs.declared.writes.Write.TheVariants.{InsertHistory, InsertNewOrder, InsertOrder}
use Rattle.oe_change.specs.declared.writes.Write.TheVariants.{InsertOrderLine, DeleteNewOrder}
use Rattle.oe_change.specs.Writes.{change_of}

-- the record of a write to these rows, which goes before it: of an insert and a delete by the key alone, and of an
-- update that of its change, where the row is there
abbrev pub record_of_write : Layout → Write → Rows → Option Record
record_of_write l (InsertHistory k x) r = Some (InsertedHistory k None)
record_of_write l (InsertNewOrder k) r = Some (InsertedNewOrder k None)
record_of_write l (InsertOrder k x) r = Some (InsertedOrder k None)
record_of_write l (InsertOrderLine k x) r = Some (InsertedOrderLine k None)
record_of_write l (DeleteNewOrder k) r = Some (DeletedNewOrder k (Some (record {})))
record_of_write l w r = option_map (λ c. record_on system l c r) (change_of w r)
