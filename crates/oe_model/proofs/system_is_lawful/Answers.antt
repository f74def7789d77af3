use Rattle.oe_model.proofs.SystemLaws.{laws}
use Rattle.oe_model.proofs.system_is_lawful.Goals as goal

pub returns : goal.returns
returns c = laws
