use Rattle.oe_change.proofs.Inverses.{records_are_told_apart}
use Rattle.oe_change.proofs.laws.records_are_told_apart.Goals as goal

pub returns : goal.returns
returns c = records_are_told_apart
