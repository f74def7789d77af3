use Rattle.oe_model.proofs.VerdictFacts.{verdicts_are_exact}
use Rattle.oe_model.proofs.verdicts.verdicts_are_exact.Goals as goal

pub returns : goal.returns
returns c = verdicts_are_exact
