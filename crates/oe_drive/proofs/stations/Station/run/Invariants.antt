use Rattle.std.proofs.Common.{◌-◌, length}
use Rattle.oe_drive.specs.Stations.{KeepsPlan}
use Rattle.oe_drive.proofs.stations.Station.run.Given as goal

abbrev pub invariant-loop-station : goal.invariant-loop-station
invariant-loop-station g l = KeepsPlan l.fn.self l.station

abbrev pub decreases-loop-station : goal.decreases-loop-station
decreases-loop-station g l = length l.station.errands - l.station.carried
