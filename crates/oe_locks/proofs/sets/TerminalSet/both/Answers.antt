use Rattle.oe_locks.proofs.SetFacts.{has-both}
use Rattle.oe_locks.proofs.sets.TerminalSet.both.Goals as goal

pub returns : goal.returns
returns c = rw (← c.self.view_is, ← c.other.view_is) (has-both _ _)
