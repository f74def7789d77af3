use Rattle.oe_script_laws.proofs.RewindFacts.{rewinds_restore}
use Rattle.oe_script_laws.proofs.rewinds_restore.Goals as goal

pub returns : goal.returns
returns c = rewinds_restore
