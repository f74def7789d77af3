use Rattle.oe_formulas.proofs.LawFacts.{delivery_sums_lines}
use Rattle.oe_formulas.proofs.laws.delivery_sums_lines.Goals as goal

pub returns : goal.returns
returns c = delivery_sums_lines
