use Rattle.std.proofs.Common.{rules}
use Rattle.oe_moments.proofs.StepFacts.{deals_keeper}
use Rattle.oe_moments.proofs.words.Moments.deal_keeper.Goals as goal

pub split_seat-chair-requires : goal.split_seat-chair-requires
split_seat-chair-requires c = (search rules, search rules, deals_keeper _ _ _ _ c.dealer.invariant (search rules))
