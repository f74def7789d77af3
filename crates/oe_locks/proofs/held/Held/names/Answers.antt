use Rattle.std.proofs.Common.{sym, subst, ◌∙◌}
use Rattle.oe_locks.proofs.EntryFacts.{once-distinct}
use Rattle.oe_locks.specs.Listed.{AreOnce}
use Rattle.oe_locks.proofs.held.Held.names.Goals as goal

pub returns-clause-once : goal.returns-clause-once
returns-clause-once c = subst AreOnce (sym (c.as_slice.ensures ∙ c.keys.ensures.rest))
    (once-distinct _ c.keys.ensures.unique)
