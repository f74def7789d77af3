use Rattle.std.proofs.Common.{sym, ◌∙◌}
use Rattle.oe_core.proofs.AuditFacts.{tables_are}
use Rattle.oe_core.proofs.cores.Core.tables.Goals as goal

pub returns : goal.returns
returns c = rw (← c.self.view_is) (c.tables.ensures ∙ sym (tables_are _ c.self.invariant))
