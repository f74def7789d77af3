use Rattle.std.proofs.Common.{rules}
use Rattle.oe_moments.proofs.StepFacts.{deals_desk}
use Rattle.oe_moments.proofs.words.Moments.deal.Goals as goal

pub split_seat-chair-requires : goal.split_seat-chair-requires
split_seat-chair-requires c = (search rules, search rules, deals_desk _ _ _ _ c.dealer.invariant (search rules))
