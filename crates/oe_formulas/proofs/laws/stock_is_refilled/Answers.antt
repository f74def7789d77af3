use Rattle.oe_formulas.proofs.LawFacts.{stock_is_refilled}
use Rattle.oe_formulas.proofs.laws.stock_is_refilled.Goals as goal

pub returns : goal.returns
returns c = stock_is_refilled
