use Rattle.oe_rows.specs.declared.keys.Key.TheVariants.{History}
use Rattle.oe_undo.proofs.ChainedFacts.{given_up_linked}
use Rattle.oe_undo.proofs.undo.Undo.give_up_history.Goals as goal

pub invariant_of-self : goal.invariant_of-self
invariant_of-self c =
    given_up_linked c.self.inside.segments c.self.inside.links c.give_up_history.new.self c.self.inside.moments
    (History c.args.key.now) c.give_up_history.ensures c.self.invariant
