use Rattle.std.proofs.Common.{rules, ◌≡◌}
use Rattle.oe_moments.proofs.StepFacts.{stores_purged}
use Rattle.oe_moments.proofs.words.Moments.settle.Goals as goal

pub store-requires : goal.store-requires
store-requires c =
    let all : c.keeper.inside.knows.passed ≡ c.self.inside.table.shared.key = search rules in (
      search rules,
      search rules,
      stores_purged _ _ _ _ c.keeper.inside.knows _ c.keeper.invariant (search rules) all
          (search rules),
    )
