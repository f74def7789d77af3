use Rattle.std.proofs.Common.{rules, refl}
use Rattle.oe_moments.proofs.StepFacts.{stores_free}
use Rattle.oe_moments.proofs.words.Moments.withdraw.Goals as goal

pub store-requires : goal.store-requires
store-requires c = (search rules, search rules, stores_free _ _ _ _ _ _ _ c.seat.invariant.0 refl refl)
