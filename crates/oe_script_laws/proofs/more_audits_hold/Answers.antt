use Rattle.oe_script_laws.proofs.AuditFacts.{more_audits_hold}
use Rattle.oe_script_laws.proofs.more_audits_hold.Goals as goal

pub returns : goal.returns
returns c = more_audits_hold
