-- As many segments are open as terminals have one.
use Rattle.std.proofs.Common.{sym, ◌∙◌}
use Rattle.oe_log.proofs.CallFacts.{inside, opens_is, seen_size}
use Rattle.oe_log.specs.Kept.{log_from}
use Rattle.oe_log.proofs.StandsFacts.{slots_counted}
use Rattle.oe_log.proofs.log.Log.open_count.Goals as goal

pub returns-clause-value : goal.returns-clause-value
returns-clause-value c = rw (← c.self.view_is) (sym (opens_is c.self.inside.layout (inside c.self.invariant.kept)))

pub returns-clause-slots : goal.returns-clause-slots
returns-clause-slots c =
    rw (← c.self.view_is) (λ slots same.
    sym (opens_is c.self.inside.layout (inside c.self.invariant.kept))
    ∙ sym (slots_counted (log_from c.self.inside.layout c.self.inside.terminals c.self.inside.commits.items
    c.self.inside.ring) slots
    (seen_size c.self.inside.layout (inside c.self.invariant.kept)) same))
