use Rattle.oe_script_laws.proofs.AuditFacts.{audits_hold}
use Rattle.oe_script_laws.proofs.audits_hold.Goals as goal

pub returns : goal.returns
returns c = audits_hold
