-- The newest moment of its terminal goes with it.
use Rattle.std.proofs.Common.{refl}
use Rattle.oe_undo.proofs.ChainedFacts.{reopen_linked}
use Rattle.oe_undo.proofs.undo.Undo.reopen_newest.Goals as goal

pub invariant_of-self : goal.invariant_of-self
invariant_of-self c =
    let closed = rw (← c.self.view_is) at c.requires in
    let whole = rw (← c.self.view_is) at c.is_chained.ensures.whole in
    reopen_linked c.self.inside.segments _ c.self.inside.moments c.self.invariant c.in-Some.owner.terminal
    c.in-Some.owner.terminal refl c.at_mut.ensures.high
    c.reopen_newest-segment.new.self c.at_mut.result.now c.take_back.new.self c.in-Some.owner _ whole closed
    c.in-Some.ensures.commit refl c.in-Some.ensures.first c.in-Some.ensures.number
    c.reopen_newest-segment.ensures.reopened c.at_mut.ensures.value c.take_back.ensures.moments c.take_back.ensures.room
