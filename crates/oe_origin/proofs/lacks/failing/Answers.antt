use Rattle.oe_store.specs.Places.{rows}
use Rattle.oe_origin.proofs.LackFacts.{holds_met, fails_first}
use Rattle.oe_origin.proofs.lacks.failing.Goals as goal

pub returns-in-Holds : goal.returns-in-Holds
returns-in-Holds c = holds_met c.args.number (rows c.args.tables.now) c.in-Holds.ensures

pub returns-in-Fails : goal.returns-in-Fails
returns-in-Fails c = fails_first c.args.number (rows c.args.tables.now) c.in-Fails.key c.in-Fails.ensures
