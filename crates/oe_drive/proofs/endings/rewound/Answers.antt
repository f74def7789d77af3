use Rattle.std.proofs.Common.{◌≡◌, rules}
use Rattle.oe_drive.proofs.EndFacts.{goes_to_start}
use Rattle.oe_drive.proofs.endings.rewound.Goals as goal

pub returns : goal.returns
returns g c =
    let zero : c.unwrap-start.result ≡ 0 = search rules in
    goes_to_start _ _ c.unwrap-start.result _ _ zero c.rewind-rewound.ensures.carries.0 c.close.ensures
