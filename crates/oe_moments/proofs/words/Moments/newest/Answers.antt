use Rattle.std.proofs.Common.{rules}
use Rattle.oe_moments.proofs.StepFacts.{loads_newest}
use Rattle.oe_moments.proofs.words.Moments.newest.Goals as goal

pub load-found-requires : goal.load-found-requires
load-found-requires c = (search rules, search rules, loads_newest _ _ _ _ _ c.seat.invariant.0)

pub unwrap-newest-requires : goal.unwrap-newest-requires
unwrap-newest-requires c =
    let found = c.load-found.ensures.2 c.seat.inside.knows c.seat.invariant.0 in
    search rules

pub returns-clause-rises : goal.returns-clause-rises
returns-clause-rises c =
    let found = c.load-found.ensures.2 c.seat.inside.knows c.seat.invariant.0 in
    search rules
