-- The commit's moment is that of its terminal's newest.
use Rattle.oe_undo.proofs.ChainedFacts.{has_room, seal_linked}
use Rattle.oe_undo.proofs.undo.Undo.seal.Goals as goal

pub commit-requires : goal.commit-requires
commit-requires c =
    let some = rw (← c.self.view_is) at c.requires in
    has_room c.self.inside.segments _ c.self.inside.moments c.self.invariant c.args.segment c.terminal.result
    c.terminal.ensures c.at_mut.ensures.high
    c.at_mut.result.now c.at_mut.ensures.value some

pub invariant_of-self : goal.invariant_of-self
invariant_of-self c =
    let some = rw (← c.self.view_is) at c.requires in
    let whole = rw (← c.self.view_is) at c.is_chained.ensures.whole in
    seal_linked c.self.inside.segments _ c.self.inside.moments c.self.invariant c.args.segment c.terminal.result
    c.terminal.ensures c.at_mut.ensures.high
    c.seal-moment.new.self c.at_mut.result.now c.commit.new.self c.seal-moment.result c.args.request.value
    c.args.reply.value whole some c.seal-moment.ensures.sealed c.seal-moment.ensures.moment
    c.at_mut.ensures.value c.commit.ensures
