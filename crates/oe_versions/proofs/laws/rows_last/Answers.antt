use Rattle.oe_versions.proofs.LastingFacts.{rows_last}
use Rattle.oe_versions.proofs.laws.rows_last.Goals as goal

pub returns : goal.returns
returns c = rows_last
