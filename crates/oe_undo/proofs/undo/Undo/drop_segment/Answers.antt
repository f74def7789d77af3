use Rattle.oe_undo.proofs.ChainedFacts.{drop_linked}
use Rattle.oe_undo.proofs.undo.Undo.drop_segment.Goals as goal

pub invariant_of-self : goal.invariant_of-self
invariant_of-self c =
    let empty = rw (← c.self.view_is) at c.requires.empty in
    drop_linked c.self.inside.segments c.drop_segment.new.self c.args.segment _ c.self.inside.moments empty
    c.drop_segment.ensures c.self.invariant
