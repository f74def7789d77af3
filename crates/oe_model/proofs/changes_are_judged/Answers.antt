use Rattle.oe_model.proofs.ChangeFacts.{judged, not_both, accepted_meets}
use Rattle.oe_model.proofs.changes_are_judged.Goals as goal

pub returns : goal.returns
returns c = record { judged = judged; not_both = not_both; accepted_meets = accepted_meets }
