use Rattle.oe_model.proofs.RuleFacts.{text_occurs}
use Rattle.oe_model.proofs.text_occurs.Goals as goal

pub returns : goal.returns
returns c = text_occurs
