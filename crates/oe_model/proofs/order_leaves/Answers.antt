use Rattle.oe_model.proofs.AfterFacts.{order_leaves}
use Rattle.oe_model.proofs.order_leaves.Goals as goal

pub returns : goal.returns
returns c = order_leaves
