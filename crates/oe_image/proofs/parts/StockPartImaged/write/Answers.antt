-- The mask, and the columns one after another; behind the last stands nothing.
use Rattle.oe_extent.proofs.WriteFacts.{Writes-then}
use Rattle.oe_image.specs.Before.{stock_columns, ten_columns}
use Rattle.oe_image.proofs.PartFacts.{Writes-last}
use Rattle.oe_image.proofs.parts.StockPartImaged.write.Goals as goal

pub returns : goal.returns
unfolding stock_columns ten_columns
returns c =
    Writes-then _ _ _ _ _ _ _ _ c.write_stock_mask-at.ensures
    (Writes-then _ _ _ _ _ _ _ _ c.write_ranged-at.ensures
    (Writes-then _ _ _ _ _ _ _ _ c.write_ranged-at-2.ensures
    (Writes-then _ _ _ _ _ _ _ _ c.write_ranged-at-3.ensures
    (Writes-last _ _ _ _ _ c.write_ranged.ensures))))
