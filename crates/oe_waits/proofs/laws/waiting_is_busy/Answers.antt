use Rattle.oe_waits.proofs.WaitFacts.{waiting_is_busy}
use Rattle.oe_waits.proofs.laws.waiting_is_busy.Goals as goal

pub returns : goal.returns
returns c = waiting_is_busy
