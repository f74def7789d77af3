use Rattle.oe_model.proofs.AfterFacts.{payment_leaves}
use Rattle.oe_model.proofs.payment_leaves.Goals as goal

pub returns : goal.returns
returns c = payment_leaves
