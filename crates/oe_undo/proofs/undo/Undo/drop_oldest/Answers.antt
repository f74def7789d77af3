-- The oldest moment of its terminal goes with it.
use Rattle.std.proofs.Common.{refl}
use Rattle.oe_undo.proofs.ChainedFacts.{none_linked_still, oldest_linked}
use Rattle.oe_undo.proofs.undo.Undo.drop_oldest.Goals as goal

pub invariant_of-self : goal.invariant_of-self
invariant_of-self c =
    none_linked_still c.self.inside.segments c.drop_oldest.new.self _ c.self.inside.moments c.in_default.ensures.oldest
    c.drop_oldest.ensures.dropped c.self.invariant

pub invariant_of-self-2 : goal.invariant_of-self-2
invariant_of-self-2 c =
    let whole = rw (← c.self.view_is) at c.is_chained.ensures.whole in
    oldest_linked c.self.inside.segments _ c.self.inside.moments c.self.invariant c.in-Some.owner.terminal
    c.in-Some.owner.terminal refl c.at_mut.ensures.high
    c.drop_oldest.new.self c.at_mut.result.now c.forget_oldest.new.self c.in-Some.owner whole c.in-Some.ensures.oldest
    refl c.drop_oldest.ensures.dropped c.at_mut.ensures.value
    c.forget_oldest.ensures.moments c.forget_oldest.ensures.room
