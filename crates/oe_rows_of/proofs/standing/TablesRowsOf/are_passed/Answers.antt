use Rattle.oe_store.specs.Places.{rows}
use Rattle.oe_rows_of.proofs.PassedFacts.{passed_now}
use Rattle.oe_rows_of.proofs.standing.TablesRowsOf.are_passed.Goals as goal

pub returns : goal.returns
returns c = passed_now (rows c.args.self.now) c.schema_holds.ensures
