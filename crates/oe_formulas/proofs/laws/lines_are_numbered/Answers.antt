use Rattle.oe_formulas.proofs.LawFacts.{lines_are_numbered}
use Rattle.oe_formulas.proofs.laws.lines_are_numbered.Goals as goal

pub returns : goal.returns
returns c = lines_are_numbered
