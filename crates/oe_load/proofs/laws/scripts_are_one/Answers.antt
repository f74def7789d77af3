use Rattle.oe_load.proofs.WholeFacts.{scripts_are_one}
use Rattle.oe_load.proofs.laws.scripts_are_one.Goals as goal

pub returns : goal.returns
returns c = scripts_are_one
