use Rattle.oe_model.proofs.VerdictFacts.{tests_are_conditions}
use Rattle.oe_model.proofs.verdicts.tests_are_conditions.Goals as goal

pub returns : goal.returns
returns c = tests_are_conditions
