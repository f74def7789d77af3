use Rattle.std.proofs.Common.{rules, refl, ◌<◌}
use Rattle.oe_moments.proofs.StepFacts.{scans_pin}
use Rattle.oe_moments.proofs.words.Moments.scan.Goals as goal

pub load-found-requires : goal.load-found-requires
load-found-requires c =
    let more : c.keeper.inside.knows.passed < c.self.inside.table.shared.key = search rules in
    (search rules, search rules, scans_pin _ _ _ _ c.keeper.inside.knows _ c.keeper.invariant (search rules) more refl)
