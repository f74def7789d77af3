-- The mask, and the columns one after another.
use Rattle.oe_extent.proofs.WriteFacts.{Writes-then}
use Rattle.oe_image.specs.Before.{warehouse_columns, address_columns}
use Rattle.oe_image.proofs.parts.WarehousePartImaged.write.Goals as goal

pub returns : goal.returns
unfolding warehouse_columns address_columns
returns c =
    Writes-then _ _ _ _ _ _ _ _ c.write_warehouse_mask-at.ensures c.write_kept.ensures
