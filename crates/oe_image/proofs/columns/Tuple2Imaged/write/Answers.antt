-- One image behind the other.
use Rattle.oe_extent.proofs.WriteFacts.{Writes-then}
use Rattle.oe_image.proofs.columns.Tuple2Imaged.write.Goals as goal

pub returns : goal.returns
returns g c = Writes-then _ _ _ _ _ _ _ _ c.write-middle.ensures c.write.ensures
