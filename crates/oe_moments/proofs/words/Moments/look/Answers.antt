use Rattle.std.proofs.Common.{rules}
use Rattle.oe_moments.proofs.StepFacts.{loads_claim}
use Rattle.oe_moments.proofs.words.Moments.look.Goals as goal

pub load-found-requires : goal.load-found-requires
load-found-requires c = (search rules, search rules, loads_claim _ _ _ _ _ c.seat.invariant.0)

pub unwrap-claim-requires : goal.unwrap-claim-requires
unwrap-claim-requires c =
    let found = c.load-found.ensures.2 c.seat.inside.knows c.seat.invariant.0 in
    search rules
