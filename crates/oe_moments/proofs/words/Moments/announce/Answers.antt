use Rattle.std.proofs.Common.{rules, refl, ◌≡◌, ◌+◌, ◌*◌, ◌≤◌}
use Rattle.oe_moments.proofs.StepFacts.{stores_announced}
use Rattle.oe_moments.specs.Rule.{most}
use Rattle.oe_moments.specs.declared.notes.DeskNotes.{DeskNotes}
use Rattle.oe_moments.proofs.words.Moments.announce.Goals as goal

pub store-requires : goal.store-requires
store-requires c =
    let p : DeskNotes = c.seat.inside.knows in
    let word : c.announced.result ≡ 2 * p.seen + 1 = search rules in
    let fits : p.seen ≤ most = search rules in
    (search rules, search rules, stores_announced _ _ _ _ p _ _ c.seat.invariant.0 refl word fits)
