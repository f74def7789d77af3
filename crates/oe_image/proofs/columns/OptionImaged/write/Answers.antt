-- The mark, and then the value.
use Rattle.oe_extent.proofs.WriteFacts.{Writes-then}
use Rattle.oe_image.proofs.columns.OptionImaged.write.Goals as goal

pub returns-in-Some : goal.returns-in-Some
returns-in-Some g c = rw c.in-Some.is (Writes-then _ _ _ _ _ _ _ _ c.write_number-middle.ensures c.write.ensures)
