use Rattle.oe_change.proofs.UndoFacts.{can_at_once, can_later}
use Rattle.oe_change.proofs.laws.what_was_applied_can_be_undone.Goals as goal

pub returns : goal.returns
returns c = record { at_once = can_at_once; later = can_later }
