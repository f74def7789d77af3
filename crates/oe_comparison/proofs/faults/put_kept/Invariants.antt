use Rattle.std.proofs.Common.{take}
use Rattle.std.specs.List.{flat_map}
use Rattle.oe_io.specs.Ports.{Sent}
use Rattle.oe_comparison.specs.Faults.{fault_line}
use Rattle.oe_comparison.proofs.faults.put_kept.Given as goal

-- the lines so far went out
abbrev pub invariant-loop-fault : goal.invariant-loop-fault
invariant-loop-fault g l =
    Sent (g.W.Outlet.sink l.initial.to) l.initial.out.items (g.W.Outlet.sink l.to) l.out.items
    (flat_map fault_line (take l.fault-index l.faults))
