use Rattle.oe_model.proofs.AfterFacts.{sums_are_exact}
use Rattle.oe_model.proofs.sums_are_exact.Goals as goal

pub returns : goal.returns
returns c = sums_are_exact
