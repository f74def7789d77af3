use Rattle.oe_reasons.proofs.ListFacts.{verbs_are_read}
use Rattle.oe_reasons.proofs.laws.verbs_are_read.Goals as goal

pub returns : goal.returns
returns c = verbs_are_read
