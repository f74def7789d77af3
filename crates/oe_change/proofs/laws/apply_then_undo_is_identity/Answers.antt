use Rattle.oe_model.proofs.RowFacts.{undone}
use Rattle.oe_change.proofs.UndoFacts.{restored, brought_back}
use Rattle.oe_change.proofs.laws.apply_then_undo_is_identity.Goals as goal

pub returns : goal.returns
returns c = record { at_once = undone; in_between = restored; of_others = brought_back }
