use Rattle.oe_waits.proofs.SetFacts.{none_in}
use Rattle.oe_waits.proofs.reaching.none.Goals as goal

pub returns-clause-none : goal.returns-clause-none
returns-clause-none c = none_in 65
