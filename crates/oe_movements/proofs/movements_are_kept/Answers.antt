use Rattle.oe_movements.proofs.KeptMoves.{kept}
use Rattle.oe_movements.proofs.movements_are_kept.Goals as goal

pub returns : goal.returns
returns c = kept
