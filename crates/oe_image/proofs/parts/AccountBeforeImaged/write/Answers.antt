-- The columns one after another.
use Rattle.oe_extent.proofs.WriteFacts.{Writes-then}
use Rattle.oe_image.specs.Before.{account_columns}
use Rattle.oe_image.proofs.parts.AccountBeforeImaged.write.Goals as goal

pub returns : goal.returns
unfolding account_columns
returns c =
    Writes-then _ _ _ _ _ _ _ _ c.write_kept-at.ensures
    (Writes-then _ _ _ _ _ _ _ _ c.write_ranged-at.ensures
    (Writes-then _ _ _ _ _ _ _ _ c.write_kept-at-2.ensures
    (Writes-then _ _ _ _ _ _ _ _ c.write_kept-at-3.ensures
    (Writes-then _ _ _ _ _ _ _ _ c.write_ranged-at-2.ensures c.write_ranged.ensures))))
