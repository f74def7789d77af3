use Rattle.oe_store.specs.Places.{rows}
use Rattle.oe_origin.proofs.LackFacts.{lacks_of}
use Rattle.oe_origin.proofs.populations.population.Goals as goal

pub returns-in-Some : goal.returns-in-Some
returns-in-Some c = λ format old new whole.
    lacks_of format old new (rows c.args.tables) c.in-Some.lack whole c.in-Some.ensures
