-- The mask, and the columns one after another; behind the last stands nothing.
use Rattle.oe_extent.proofs.WriteFacts.{Writes-then}
use Rattle.oe_image.specs.Before.{order_columns}
use Rattle.oe_image.proofs.PartFacts.{Writes-last}
use Rattle.oe_image.proofs.parts.OrderPartImaged.write.Goals as goal

pub returns : goal.returns
unfolding order_columns
returns c =
    Writes-then _ _ _ _ _ _ _ _ c.write_order_mask-at.ensures
    (Writes-last _ _ _ _ _ c.write_carrier.ensures)
