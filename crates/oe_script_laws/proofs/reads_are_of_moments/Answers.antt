use Rattle.oe_script_laws.proofs.ReadFacts.{reads_are_of_moments}
use Rattle.oe_script_laws.proofs.reads_are_of_moments.Goals as goal

pub returns : goal.returns
returns c = reads_are_of_moments
