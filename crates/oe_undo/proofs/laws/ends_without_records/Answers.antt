use Rattle.oe_undo.proofs.CallFacts.{ends_without_records}
use Rattle.oe_undo.proofs.laws.ends_without_records.Goals as goal

pub returns : goal.returns
returns c = ends_without_records
