use Rattle.oe_script_laws.proofs.DeedFacts.{lines_are_deeds}
use Rattle.oe_script_laws.proofs.lines_are_deeds.Goals as goal

pub returns : goal.returns
returns c = lines_are_deeds
