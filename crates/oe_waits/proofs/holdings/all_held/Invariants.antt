use Rattle.std.proofs.Common.{◌≡◌, ◌≤◌, ◌+◌, ◌*◌, ◌^◌}
use Rattle.oe_io.specs.Ports.{Sent}
use Rattle.oe_waits.specs.Names.{held_count}
use Rattle.oe_waits.specs.Texts.{held_lines, texts_to}
use Rattle.oe_waits.proofs.holdings.all_held.Given as goal

-- the lines of the terminals so far went out
abbrev pub invariant-loop-before : goal.invariant-loop-before
invariant-loop-before g l =
    Sent (g.W.Outlet.sink l.initial.to) l.initial.out.items (g.W.Outlet.sink l.to) l.out.items
    (texts_to (held_lines (g.M.Machine.world l.core)) l.before)
    × (l.count ≡ held_count (g.M.Machine.world l.core) l.before) × (l.count + l.before ≤ 2 ^ 64 * l.before)
