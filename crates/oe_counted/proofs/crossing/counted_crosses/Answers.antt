use denote.Param.{param}
use denote.Param.Send.{IsSend}
use Rattle.std.proofs.Common.{rules}
use Rattle.oe_counted.proofs.counting.Counted.TheSendSync as counted
use Rattle.oe_counted.proofs.crossing.counted_crosses.Goals as goal

pub returns : goal.returns
returns g c =
    let sent : IsSend (param 0 g.row.M) = search rules in
    counted.the_send (param 0 g.row.M) sent
