use Rattle.oe_table.proofs.TakenOutFacts.{blanked-out}
use Rattle.oe_table.proofs.shelves.Shelves.remove.Goals as goal

pub returns-clause-places : goal.returns-clause-places
returns-clause-places g c = blanked-out g.met.K.Ord.total _ _ _ c.args.key.now c.blank-taken.ensures.places
    c.give_up.ensures.places
