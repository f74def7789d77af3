use Rattle.std.proofs.Common.{rules, refl, ◌≡◌, ◌+◌, ◌*◌, ◌<◌, ◌-◌}
use Rattle.oe_moments.proofs.StepFacts.{finds_pin}
use Rattle.oe_moments.proofs.words.Moments.find.Goals as goal

pub load-found-requires : goal.load-found-requires
load-found-requires c =
    let lt : c.get.result - 1 < c.self.inside.table.shared.key = search rules in (
      search rules,
      search rules,
      finds_pin _ _ _ _ c.keeper.inside.knows (c.get.result - 1) _ c.keeper.invariant lt
          refl,
    )

pub returns-clause-young : goal.returns-clause-young
returns-clause-young c =
    let found : c.load-found.result ≡ 2 * c.moment.result + 2 = search rules in
    let young = (c.load-found.ensures.2 c.keeper.inside.knows c.keeper.invariant).1 c.moment.result found in
    search rules
