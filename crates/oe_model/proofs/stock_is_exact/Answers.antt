use Rattle.oe_model.proofs.RuleFacts.{stock_is_exact}
use Rattle.oe_model.proofs.stock_is_exact.Goals as goal

pub returns : goal.returns
returns c = stock_is_exact
