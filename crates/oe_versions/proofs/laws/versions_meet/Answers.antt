use Rattle.oe_versions.proofs.LastingFacts.{versions_meet}
use Rattle.oe_versions.proofs.laws.versions_meet.Goals as goal

pub returns : goal.returns
returns c = versions_meet
