use Rattle.std.proofs.Common.{◌≡◌, ◌+◌, false}
use Rattle.oe_moments.specs.Pins.{is_pinned}
use Rattle.oe_drive.proofs.idle.Idle.read.Given as goal

-- a pin that is too old has changed only what the desk knows of moments
abbrev pub invariant-loop : goal.invariant-loop
invariant-loop g l = (l.self-inside.desk.told.begun ≡ l.self-inside.desk.told.committed
    + l.self-inside.desk.told.rolled_back) × (is_pinned l.self-inside.desk.seat.notes.pin ≡ false)
    × (l.self-inside.desk.told ≡ l.fn.self.told) × (l.self-inside.desk.calls ≡ l.fn.self.calls)
    × (l.self-inside.desk.seat.terminal ≡ l.fn.self.seat.terminal)
