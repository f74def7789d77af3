use Rattle.oe_model.proofs.FoundFacts.{rename_is_exact}
use Rattle.oe_model.proofs.rename_is_exact.Goals as goal

pub returns : goal.returns
returns c = rename_is_exact
