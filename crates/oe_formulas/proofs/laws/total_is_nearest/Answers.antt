use Rattle.oe_formulas.proofs.LawFacts.{total_is_nearest}
use Rattle.oe_formulas.proofs.laws.total_is_nearest.Goals as goal

pub returns : goal.returns
returns c = total_is_nearest
