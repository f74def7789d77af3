use Rattle.oe_model.proofs.FoundFacts.{delivery_is_exact}
use Rattle.oe_model.proofs.delivery_is_exact.Goals as goal

pub returns : goal.returns
returns c = delivery_is_exact
