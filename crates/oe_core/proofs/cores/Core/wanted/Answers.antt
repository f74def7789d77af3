use Rattle.std.proofs.Common.{refl, ap, ◌∙◌}
use Rattle.oe_model.specs.System.{ask}
use Rattle.oe_locks.specs.Holds.{lock_asked}
use Rattle.oe_core.proofs.AskFacts.{none_asks, open_asks}
use Rattle.oe_core.proofs.MoveFacts.{lent_tx, lent_work}
use Rattle.oe_core.proofs.cores.Core.wanted.Goals as goal

pub returns-in_default : goal.returns-in_default
returns-in_default c =
    rw (← c.self.view_is)
    (none_asks _ _ (lent_tx c.self.invariant refl c.at.ensures.high c.at.ensures.value c.in_default.is))

pub returns-in-Some-at : goal.returns-in-Some-at
returns-in-Some-at c =
    rw (← c.self.view_is)
    (open_asks _ _ c.self.invariant _ _ _
    (lent_tx c.self.invariant refl c.at.ensures.high c.at.ensures.value c.in-Some.is)
    (lent_work c.self.invariant refl c.at-2.ensures.high c.at-2.ensures.value c.in-Some-at.is)
    (λ y. c.wanted.ensures y ∙ ap (λ r. lock_asked (ask y c.in-Some-at.work.position r)) c.tables.ensures))
