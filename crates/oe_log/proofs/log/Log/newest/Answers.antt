-- The newest moment is kept.
use Rattle.std.proofs.Common.{sym, ◌∙◌}
use Rattle.oe_log.proofs.CallFacts.{inside, total_is, seen_size}
use Rattle.oe_log.specs.Kept.{log_from}
use Rattle.oe_log.proofs.StandsFacts.{totals}
use Rattle.oe_log.proofs.log.Log.newest.Goals as goal

pub returns-clause-value : goal.returns-clause-value
returns-clause-value c = rw (← c.self.view_is) (sym (total_is c.self.inside.layout (inside c.self.invariant.kept)))

pub returns-clause-moment : goal.returns-clause-moment
returns-clause-moment c =
    rw (← c.self.view_is)
    (sym (total_is c.self.inside.layout (inside c.self.invariant.kept))
    ∙ sym (totals (log_from c.self.inside.layout c.self.inside.terminals c.self.inside.commits.items c.self.inside.ring)
    (seen_size c.self.inside.layout (inside c.self.invariant.kept))))
