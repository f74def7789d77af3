use Rattle.std.proofs.Common.{take}
use Rattle.std.specs.List.{flat_map}
use Rattle.oe_io.specs.Ports.{Sent}
use Rattle.oe_deeds.specs.Files.{commit_line}
use Rattle.oe_deeds.proofs.files.lines.Given as goal

-- the lines so far went out
abbrev pub invariant-loop-commit : goal.invariant-loop-commit
invariant-loop-commit g l =
    Sent (g.W.Outlet.sink l.initial.to) l.initial.out.items (g.W.Outlet.sink l.to) l.out.items
    (flat_map commit_line (take l.commit-index l.commits))
