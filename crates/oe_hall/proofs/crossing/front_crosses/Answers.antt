use denote.Param.{param}
use denote.Param.Send.{IsSend}
use Rattle.std.proofs.Common.{rules}
use Rattle.oe_hall.proofs.SendFacts.{front_sync}
use Rattle.oe_hall.proofs.crossing.front_crosses.Goals as goal

pub returns : goal.returns
returns g c =
    let sent : IsSend (param 1 g.row.M) = search rules in
    front_sync (param 0 g.row.J) (param 1 g.row.M) g.J.Naming g.M.Machine sent
