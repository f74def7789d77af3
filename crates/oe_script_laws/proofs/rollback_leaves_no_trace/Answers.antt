use Rattle.oe_script_laws.proofs.WithoutFacts.{lines_without_rollback}
use Rattle.oe_script_laws.proofs.rollback_leaves_no_trace.Goals as goal

pub returns : goal.returns
returns c = lines_without_rollback
