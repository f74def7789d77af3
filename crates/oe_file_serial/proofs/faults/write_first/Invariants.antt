use Rattle.std.proofs.Common.{[], take}
use Rattle.std.specs.List.{flat_map}
use Rattle.oe_io.specs.Ports.{Sent}
use Rattle.oe_file_serial.specs.BadTexts.{bad_line_text}
use Rattle.oe_file_serial.proofs.faults.write_first.Given as goal

-- the lines so far went out
abbrev pub invariant-loop-bad : goal.invariant-loop-bad
invariant-loop-bad g l =
    Sent (g.W.Outlet.sink l.initial.to) [] (g.W.Outlet.sink l.to) [] (flat_map bad_line_text (take l.bad-index l.first))
