use Rattle.oe_reasons.proofs.ListFacts.{lists_are_whole}
use Rattle.oe_reasons.proofs.laws.lists_are_whole.Goals as goal

pub returns : goal.returns
returns c = lists_are_whole
