use Rattle.std.proofs.Common.{◌≤◌, ◌-◌, [], length, take}
use Rattle.oe_io.specs.Ports.{Sent}
use Rattle.oe_io.proofs.output.write_all.Given as goal

abbrev pub invariant-loop-at : goal.invariant-loop-at
invariant-loop-at g l = record {
  within : l.at ≤ length l.bytes;
  stream : Sent (g.W.Outlet.sink l.initial.to) [] (g.W.Outlet.sink l.to) [] (take l.at l.bytes);
}

abbrev pub decreases-loop-at : goal.decreases-loop-at
decreases-loop-at g l = length l.initial.bytes - l.at
