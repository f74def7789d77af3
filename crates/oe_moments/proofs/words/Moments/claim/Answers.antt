use Rattle.std.proofs.Common.{rules}
use Rattle.oe_moments.proofs.StepFacts.{raises_claim}
use Rattle.oe_moments.proofs.words.Moments.claim.Goals as goal

pub fetch_max-requires : goal.fetch_max-requires
fetch_max-requires c =
    (search rules, search rules, raises_claim _ _ _ _ _ c.get.result c.keeper.invariant (search rules))
