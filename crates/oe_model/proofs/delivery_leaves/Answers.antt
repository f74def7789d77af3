use Rattle.oe_model.proofs.AfterFacts.{delivery_leaves}
use Rattle.oe_model.proofs.delivery_leaves.Goals as goal

pub returns : goal.returns
returns c = delivery_leaves
