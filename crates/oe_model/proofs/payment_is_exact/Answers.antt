use Rattle.oe_model.proofs.RuleFacts.{payment_is_exact}
use Rattle.oe_model.proofs.payment_is_exact.Goals as goal

pub returns : goal.returns
returns c = payment_is_exact
