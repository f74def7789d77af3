use Rattle.std.proofs.Common.{◌≡◌, ◌*◌, ◌≤◌}
use Rattle.oe_drive.specs.Room.{transactions_by, most_extents_by}
use Rattle.oe_drive.proofs.room.needs.Given as goal

abbrev pub invariant-loop-before : goal.invariant-loop-before
invariant-loop-before l =
    (l.transactions ≡ transactions_by l.before) × (l.extents ≡ most_extents_by l.before) × (l.transactions ≤ l.before)
    × (l.extents ≤ 2 * l.before)
