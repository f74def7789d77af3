use Rattle.std.proofs.Common.{sym, ◌∙◌}
use Rattle.oe_core.proofs.AuditFacts.{newest_is}
use Rattle.oe_core.proofs.cores.Core.newest.Goals as goal

pub returns : goal.returns
returns c = rw (← c.self.view_is) (c.newest.ensures ∙ sym (newest_is _ c.self.invariant))
