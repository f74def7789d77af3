use Rattle.oe_consistency.proofs.KeptMore.{kept}
use Rattle.oe_consistency.proofs.further_conditions_are_kept.Goals as goal

pub returns : goal.returns
returns c = kept
