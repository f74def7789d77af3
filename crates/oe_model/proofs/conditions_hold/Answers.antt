use Rattle.oe_model.proofs.ConsistencyFacts.{consistent, along_runs}
use Rattle.oe_model.proofs.conditions_hold.Goals as goal

pub returns : goal.returns
returns c = record {
  of_versions = λ w reached. (consistent w reached).of_versions;
  when_quiet = λ w reached. (consistent w reached).when_quiet;
  along_runs = along_runs;
}
