use Rattle.oe_undo.proofs.ChainedFacts.{add_linked}
use Rattle.oe_undo.proofs.undo.Undo.add_place.Goals as goal

pub invariant_of-self : goal.invariant_of-self
invariant_of-self c =
    add_linked c.add_place.result c.self.inside.segments c.self.inside.links c.add_place.new.self c.self.inside.moments
    c.args.key.now c.add_place.ensures.given c.add_place.ensures.err c.self.invariant
