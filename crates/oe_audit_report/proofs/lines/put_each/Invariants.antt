use Rattle.std.proofs.Common.{take}
use Rattle.std.specs.List.{flat_map}
use Rattle.oe_io.specs.Ports.{Sent}
use Rattle.oe_audit_report.proofs.lines.put_each.Given as goal

-- the texts so far went out
abbrev pub invariant-loop-item : goal.invariant-loop-item
invariant-loop-item g l =
    Sent (g.W.Outlet.sink l.initial.to) l.initial.out.items (g.W.Outlet.sink l.to) l.out.items
    (flat_map (g.T.TextOf.text l.by) (take l.item-index l.items))
