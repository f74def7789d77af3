use Rattle.std.proofs.Common.{◌≡◌, ◌-◌, ◌^◌, length}
use Rattle.oe_io.specs.Ports.{Sent}
use Rattle.oe_waits.proofs.HeldFacts.{shown_lines, shown_names}
use Rattle.oe_waits.proofs.holdings.all_of_one.Given as goal

-- the lines of the names up to the last place went out
abbrev pub invariant-loop-name : goal.invariant-loop-name
invariant-loop-name g l =
    Sent (g.W.Outlet.sink l.initial.to) l.initial.out.items (g.W.Outlet.sink l.to) l.out.items
    (shown_lines (g.M.Machine.world l.core) l.holder l.behind.items)
    × (l.count ≡ length (shown_names (g.M.Machine.world l.core) l.holder l.behind.items))

abbrev pub decreases-loop-name : goal.decreases-loop-name
decreases-loop-name g l = 2 ^ 64 - l.count
