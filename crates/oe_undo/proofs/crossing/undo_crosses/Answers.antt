use Rattle.oe_undo.proofs.SendFacts.{undo_send}
use Rattle.oe_undo.proofs.crossing.undo_crosses.Goals as goal

pub returns : goal.returns
returns c = undo_send c.log_crosses.ensures
