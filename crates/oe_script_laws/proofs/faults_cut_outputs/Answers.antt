use Rattle.oe_script_laws.proofs.FaultFacts.{faults_cut_outputs}
use Rattle.oe_script_laws.proofs.faults_cut_outputs.Goals as goal

pub returns : goal.returns
returns c = faults_cut_outputs
