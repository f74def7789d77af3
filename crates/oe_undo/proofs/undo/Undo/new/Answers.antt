use Rattle.oe_undo.proofs.ChainedFacts.{none_linked}
use Rattle.oe_undo.proofs.undo.Undo.new.Goals as goal

pub invariant_of-result : goal.invariant_of-result
invariant_of-result c = none_linked c.args.extents c.args.layout c.in_ok-segments.segments c.new-2.result
    c.in-Ok.moments
    c.in_ok-segments.ensures c.new-2.ensures c.in-Ok.ensures
