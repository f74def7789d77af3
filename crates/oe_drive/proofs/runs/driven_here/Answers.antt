use Rattle.oe_store.specs.Places.{rows}
use Rattle.oe_drive.proofs.LeftFacts.{left_here}
use Rattle.oe_drive.proofs.runs.driven_here.Goals as goal

pub returns-clause-left : goal.returns-clause-left
returns-clause-left g c =
    left_here g.M.Machine.world c.args.numbers.now c.driven.result c.args.plans.items
    (rows c.in-Ok-populated.tables) c.in-Ok.seats.names.layout c.in-Ok.ensures.1 c.in-Ok-populated.ensures.0
    c.driven.ensures.quiet c.driven.ensures.newest c.driven.ensures.layout c.driven.ensures.run
    c.driven.ensures.unpurged c.driven.ensures.carried c.requires.drawn
