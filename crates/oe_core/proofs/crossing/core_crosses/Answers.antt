use Rattle.oe_core.proofs.SendFacts.{core_send}
use Rattle.oe_core.proofs.crossing.core_crosses.Goals as goal

pub returns : goal.returns
returns c = core_send c.engine_crosses.ensures
