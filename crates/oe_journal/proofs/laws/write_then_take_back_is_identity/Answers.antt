use Rattle.oe_journal.proofs.LedFacts.{write_then_take_back_is_identity}
use Rattle.oe_journal.proofs.laws.write_then_take_back_is_identity.Goals as goal

pub returns : goal.returns
returns c = write_then_take_back_is_identity
