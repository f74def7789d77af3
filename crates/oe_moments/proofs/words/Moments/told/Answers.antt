use Rattle.std.proofs.Common.{rules}
use Rattle.oe_moments.proofs.StepFacts.{raises_newest}
use Rattle.oe_moments.proofs.words.Moments.told.Goals as goal

pub fetch_max-found-requires : goal.fetch_max-found-requires
fetch_max-found-requires c =
    (search rules, search rules, raises_newest _ _ _ _ _ c.get.result c.seat.invariant.0 (search rules))

pub unwrap-seat-inside-requires : goal.unwrap-seat-inside-requires
unwrap-seat-inside-requires c =
    let found = c.fetch_max-found.ensures.2 c.seat.inside.knows c.seat.invariant.0 in
    search rules

pub returns-clause-rises : goal.returns-clause-rises
returns-clause-rises c =
    let found = c.fetch_max-found.ensures.2 c.seat.inside.knows c.seat.invariant.0 in
    search rules
