use Rattle.oe_model.proofs.FoundFacts.{order_is_last}
use Rattle.oe_model.proofs.order_is_last.Goals as goal

pub returns : goal.returns
returns c = order_is_last
