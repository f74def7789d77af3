use Rattle.oe_change.proofs.Inverses.{changes_are_told_apart}
use Rattle.oe_change.proofs.laws.changes_are_told_apart.Goals as goal

pub returns : goal.returns
returns c = changes_are_told_apart
