use Rattle.oe_script_laws.proofs.PassFacts.{scripts_are_runs}
use Rattle.oe_script_laws.proofs.scripts_are_runs.Goals as goal

pub returns : goal.returns
returns c = scripts_are_runs
