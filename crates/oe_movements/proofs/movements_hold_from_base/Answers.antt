use Rattle.oe_theory.proofs.Theorems.{holds_from_base}
use Rattle.oe_model.specs.System.{system}
use Rattle.oe_model.proofs.SystemLaws.{laws}
use Rattle.oe_movements.specs.Kept.{HasMovements}
use Rattle.oe_movements.proofs.KeptMoves.{kept}
use Rattle.oe_movements.proofs.movements_hold_from_base.Goals as goal

pub returns : goal.returns
returns c initial = holds_from_base system laws (HasMovements initial) (kept initial)
