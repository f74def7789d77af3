use Rattle.oe_core.proofs.MoveFacts.{reached_here}
use Rattle.oe_core.proofs.cores.Core.is_reached.Goals as goal

pub returns : goal.returns
returns c = rw (← c.self.view_is) (reached_here _ c.self.invariant)
