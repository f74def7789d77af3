-- The log's room is the machine's.
use Rattle.oe_log.proofs.UsedFacts.{full_here, full_there}
use Rattle.oe_log.proofs.laws.full_as_the_machine.Goals as goal

pub returns : goal.returns
returns c = λ v t n size. (full_here v t n size, full_there v t n size)
