use Rattle.oe_load.proofs.OneFacts.{turns_are_one}
use Rattle.oe_load.proofs.laws.turns_are_one.Goals as goal

pub returns : goal.returns
returns c = turns_are_one
