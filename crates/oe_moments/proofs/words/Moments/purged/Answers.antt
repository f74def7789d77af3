use Rattle.std.proofs.Common.{rules}
use Rattle.oe_moments.proofs.StepFacts.{loads_purged}
use Rattle.oe_moments.proofs.words.Moments.purged.Goals as goal

pub load-found-requires : goal.load-found-requires
load-found-requires c = (search rules, search rules, loads_purged _ _ _ _ _ c.seat.invariant.0)
