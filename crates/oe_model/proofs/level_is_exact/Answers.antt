use Rattle.oe_model.proofs.LevelFacts.{level_is_exact}
use Rattle.oe_model.proofs.level_is_exact.Goals as goal

pub returns : goal.returns
returns c = level_is_exact
