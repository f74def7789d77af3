use Rattle.oe_script_laws.proofs.SureFacts.{answers_are_determined}
use Rattle.oe_script_laws.proofs.answers_are_determined.Goals as goal

pub returns : goal.returns
returns c = answers_are_determined
