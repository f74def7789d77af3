use Rattle.std.proofs.Common.{◌≡◌, ◌≤◌}
use Rattle.oe_io.specs.Ports.{Sent}
use Rattle.oe_waits.specs.Knots.{count_to}
use Rattle.oe_waits.specs.Waits.{waits}
use Rattle.oe_waits.specs.Texts.{texts_to, waiting_line}
use Rattle.oe_waits.proofs.shows.all_waiting.Given as goal

-- the lines of the terminals so far went out
abbrev pub invariant-loop-before : goal.invariant-loop-before
invariant-loop-before g l =
    Sent (g.W.Outlet.sink l.initial.to) l.initial.out.items (g.W.Outlet.sink l.to) l.out.items
    (texts_to (waiting_line (g.M.Machine.world l.core)) l.before)
    × (l.count ≡ count_to (waits (g.M.Machine.world l.core)) l.before) × (l.count ≤ l.before)
