use Rattle.oe_waits.proofs.WaitFacts.{someone_goes_on}
use Rattle.oe_waits.proofs.laws.someone_goes_on.Goals as goal

pub returns : goal.returns
returns c = someone_goes_on
