use Rattle.oe_load.proofs.ServedFacts.{none}
use Rattle.oe_load.proofs.served.none_served.Goals as goal

pub returns : goal.returns
returns c = none 65
