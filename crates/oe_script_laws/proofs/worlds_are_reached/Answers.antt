use Rattle.oe_script_laws.proofs.PassFacts.{worlds_are_reached}
use Rattle.oe_script_laws.proofs.worlds_are_reached.Goals as goal

pub returns : goal.returns
returns c = worlds_are_reached
