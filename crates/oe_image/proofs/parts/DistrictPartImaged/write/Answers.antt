-- The mask, and the columns one after another.
use Rattle.oe_extent.proofs.WriteFacts.{Writes-then}
use Rattle.oe_image.specs.Before.{district_columns, address_columns}
use Rattle.oe_image.proofs.parts.DistrictPartImaged.write.Goals as goal

pub returns : goal.returns
unfolding district_columns address_columns
returns c =
    Writes-then _ _ _ _ _ _ _ _ c.write_district_mask-at.ensures
    (Writes-then _ _ _ _ _ _ _ _ c.write_kept-at.ensures c.write_ranged.ensures)
