use Rattle.oe_model.proofs.MiddleFacts.{name_is_middle}
use Rattle.oe_model.proofs.name_is_middle.Goals as goal

pub returns : goal.returns
returns c = name_is_middle
