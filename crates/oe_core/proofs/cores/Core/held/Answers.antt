use Rattle.std.proofs.Common.{refl}
use Rattle.oe_core.proofs.AskFacts.{none_holds, open_holds}
use Rattle.oe_core.proofs.MoveFacts.{lent_tx}
use Rattle.oe_core.proofs.cores.Core.held.Goals as goal

pub returns-in-Some : goal.returns-in-Some
returns-in-Some c =
    rw (← c.self.view_is)
    (open_holds _ _ c.self.invariant _ _ _
    (lent_tx c.self.invariant refl c.at.ensures.high c.at.ensures.value c.in-Some.is) c.held.ensures.open)

pub returns-in-None : goal.returns-in-None
returns-in-None c =
    rw (← c.self.view_is)
    (none_holds _ _ (lent_tx c.self.invariant refl c.at.ensures.high c.at.ensures.value c.in-None.is) _)
