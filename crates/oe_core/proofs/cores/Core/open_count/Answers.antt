use Rattle.oe_core.proofs.CountFacts.{counted_is, quiet_is}
use Rattle.oe_core.proofs.cores.Core.open_count.Goals as goal

pub returns-clause-count : goal.returns-clause-count
returns-clause-count c = rw (← c.self.view_is) (counted_is _ c.self.invariant _ c.open_count.ensures)

pub returns-clause-quiet : goal.returns-clause-quiet
returns-clause-quiet c = rw (← c.self.view_is)
    (quiet_is _ c.self.invariant _ (counted_is _ c.self.invariant _ c.open_count.ensures))
