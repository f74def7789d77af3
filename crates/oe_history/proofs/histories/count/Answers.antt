use Rattle.std.proofs.Common.{rules, ap}
use Rattle.oe_history.proofs.Steps.{looks}
use Rattle.oe_history.proofs.histories.count.Goals as goal

pub load-requires : goal.load-requires
load-requires c = (search rules, search rules, looks 0 _ _ _ (ap (λ x. x.0.keeps) c.requires.keeper))
