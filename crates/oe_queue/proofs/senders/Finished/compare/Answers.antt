use Rattle.oe_queue.proofs.EndFacts.{is_whole}
use Rattle.oe_queue.proofs.senders.Finished.compare.Goals as goal

pub returns-clause-whole : goal.returns-clause-whole
returns-clause-whole c = rw (← c.self.view_is) (is_whole _ _ _ c.hear.ensures.beginning c.self.invariant)
