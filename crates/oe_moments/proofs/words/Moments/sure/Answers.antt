use Rattle.std.proofs.Common.{rules, refl, ◌≡◌, ◌+◌, ◌*◌, ◌≤◌}
use Rattle.oe_moments.proofs.StepFacts.{stores_sure}
use Rattle.oe_moments.specs.declared.notes.DeskNotes.{DeskNotes}
use Rattle.oe_moments.specs.declared.notes.PinState.TheVariants.{Looked}
use Rattle.oe_moments.proofs.words.Moments.sure.Goals as goal

pub store-requires : goal.store-requires
store-requires c =
    let p : DeskNotes = c.seat.inside.knows in
    let is : p.pin ≡ Looked c.args.moment = search rules in
    let below : p.claim ≤ c.args.moment = search rules in
    let word : c.sure.result ≡ 2 * c.args.moment + 2 = search rules in
    (search rules, search rules, stores_sure _ _ _ _ p c.args.moment _ _ c.seat.invariant.0 is below refl word)
