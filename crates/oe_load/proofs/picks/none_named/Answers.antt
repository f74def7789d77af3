use Rattle.oe_load.proofs.PickFacts.{nobody_is}
use Rattle.oe_load.proofs.picks.none_named.Goals as goal

pub returns : goal.returns
returns c = nobody_is 65
