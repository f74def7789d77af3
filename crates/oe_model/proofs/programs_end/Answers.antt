use Rattle.oe_model.proofs.SystemLaws as laws
use Rattle.oe_model.proofs.programs_end.Goals as goal

pub returns : goal.returns
returns c = laws.programs_end
