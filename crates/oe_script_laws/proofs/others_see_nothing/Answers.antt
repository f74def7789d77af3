use Rattle.oe_model.specs.System.{system}
use Rattle.oe_model.proofs.SystemLaws.{laws}
use Rattle.oe_script_laws.proofs.BesideFacts.{others_see_nothing}
use Rattle.oe_script_laws.proofs.others_see_nothing.Goals as goal

pub returns : goal.returns
returns c = others_see_nothing system laws
