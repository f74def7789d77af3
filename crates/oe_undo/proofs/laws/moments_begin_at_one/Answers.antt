use Rattle.oe_undo.proofs.MomentFacts.{moments_begin_at_one}
use Rattle.oe_undo.proofs.laws.moments_begin_at_one.Goals as goal

pub returns : goal.returns
returns c = moments_begin_at_one
