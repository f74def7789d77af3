use Rattle.oe_waits.proofs.WaitFacts.{waits_are_chains}
use Rattle.oe_waits.proofs.laws.waits_are_chains.Goals as goal

pub returns : goal.returns
returns c = waits_are_chains
