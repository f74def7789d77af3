use Rattle.oe_engine.proofs.SendFacts.{engine_send}
use Rattle.oe_engine.proofs.crossing.engine_crosses.Goals as goal

pub returns : goal.returns
returns c = engine_send c.undo_crosses.ensures
