use Rattle.oe_theory.proofs.Theorems.{holds_from_base}
use Rattle.oe_model.specs.FurtherConditions.{More}
use Rattle.oe_model.specs.System.{system}
use Rattle.oe_model.proofs.SystemLaws.{laws}
use Rattle.oe_consistency.proofs.KeptMore.{kept}
use Rattle.oe_consistency.proofs.more_holds_from_base.Goals as goal

pub returns : goal.returns
returns c = holds_from_base system laws More kept
