-- The mask, and the columns one after another; behind the last stands nothing.
use Rattle.oe_extent.proofs.WriteFacts.{Writes-then}
use Rattle.oe_image.specs.Before.{customer_columns, name_columns, address_columns, account_columns}
use Rattle.oe_image.proofs.PartFacts.{Writes-last}
use Rattle.oe_image.proofs.parts.CustomerNamePartImaged.write.Goals as goal

pub returns : goal.returns
unfolding customer_columns name_columns address_columns account_columns
returns c =
    Writes-then _ _ _ _ _ _ _ _ c.write_name_mask-at.ensures
    (Writes-last _ _ _ _ _
    (Writes-then _ _ _ _ _ _ _ _ c.write_lent-at.ensures c.write_lent.ensures))
