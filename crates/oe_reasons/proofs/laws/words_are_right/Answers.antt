use Rattle.oe_reasons.proofs.FitFacts.{words_are_right}
use Rattle.oe_reasons.proofs.laws.words_are_right.Goals as goal

pub returns : goal.returns
returns c = words_are_right
