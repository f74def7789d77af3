use Rattle.oe_reasons.proofs.RangeFacts.{ranges_are_the_grammars}
use Rattle.oe_reasons.proofs.laws.ranges_are_the_grammars.Goals as goal

pub returns : goal.returns
returns c = ranges_are_the_grammars
