use Rattle.std.proofs.Common.{◌≡◌}
use Rattle.oe_io.specs.Ports.{Sent}
use Rattle.oe_waits.specs.Knots.{any_to}
use Rattle.oe_waits.specs.Waits.{is_least_in_cycle}
use Rattle.oe_waits.specs.Texts.{cycle_line, texts_to}
use Rattle.oe_waits.proofs.shows.all_cycles.Given as goal

-- the lines of the terminals so far went out
abbrev pub invariant-loop-before : goal.invariant-loop-before
invariant-loop-before g l =
    Sent (g.W.Outlet.sink l.initial.to) l.initial.out.items (g.W.Outlet.sink l.to) l.out.items
    (texts_to (cycle_line (g.M.Machine.world l.core)) l.before)
    × (l.is_found ≡ any_to (is_least_in_cycle (g.M.Machine.world l.core)) l.before)
