-- The terminal has room for its commit, whether its segment is open or was refused.
use Rattle.std.proofs.Common.{refl}
use Rattle.oe_undo.proofs.ChainedFacts.{open_either}
use Rattle.oe_undo.proofs.undo.Undo.open_segment.Goals as goal

pub invariant_of-self-2 : goal.invariant_of-self-2
invariant_of-self-2 c =
    let closed = rw (← c.self.view_is) at c.requires.closed in
    open_either c.self.inside.segments _ c.self.inside.moments c.self.invariant c.args.terminal c.args.terminal refl
    c.at_mut.ensures.high
    c.open_segment.result c.open_segment.new.self c.at_mut.result.now c.reserve.new.self closed
    c.open_segment.ensures.opened c.open_segment.ensures.err
    c.at_mut.ensures.value c.in_ok-reserve.ensures.moments c.in_ok-reserve.ensures.room
