use Rattle.oe_store.specs.Places.{rows}
use Rattle.oe_rows_of.proofs.PassedFacts.{passed_now}
use Rattle.oe_audit.proofs.conditions.condition.Goals as goal

pub found-requires : goal.found-requires
found-requires c = passed_now (rows c.args.tables.now) c.schema_holds.ensures
