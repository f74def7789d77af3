use Rattle.oe_script_laws.proofs.WithoutFacts.{outputs_without_rollback}
use Rattle.oe_script_laws.proofs.outputs_without_rollback.Goals as goal

pub returns : goal.returns
returns c = outputs_without_rollback
