use Rattle.std.proofs.Common.{rules, ap, ◌∙◌}
use Rattle.oe_history.proofs.Steps.{comes, looks, goes}
use Rattle.oe_history.proofs.histories.look.Goals as goal

pub join_seat-requires : goal.join_seat-requires
join_seat-requires c = (search rules, search rules, search rules, search rules, comes 0 _ _ _ _)

pub load-requires : goal.load-requires
load-requires c =
    let k = ap (λ x. x.0.keeps) c.requires.keeper in
    (search rules, search rules, looks 0 _ _ _ (ap (λ x. x.0.keeps) c.join_seat.ensures.2 ∙ k))

pub split_seat-guest-requires : goal.split_seat-guest-requires
split_seat-guest-requires c = (search rules, search rules, goes 0 _ _)
