use Rattle.oe_model.proofs.FoundFacts.{oldest_is_least}
use Rattle.oe_model.proofs.oldest_is_least.Goals as goal

pub returns : goal.returns
returns c = oldest_is_least
