use Rattle.oe_queue.proofs.Moves.{forks}
use Rattle.oe_queue.proofs.ends.SendingEnd.new.Goals as goal

pub another-theirs-requires-clause-rule : goal.another-theirs-requires-clause-rule
another-theirs-requires-clause-rule c = forks _ _ _ c.requires.taker
