use Rattle.oe_model.proofs.LevelFacts.{modes_conflict}
use Rattle.oe_model.proofs.modes_conflict.Goals as goal

pub returns : goal.returns
returns c = modes_conflict
