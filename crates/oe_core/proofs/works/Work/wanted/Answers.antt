use Rattle.oe_store.specs.Places.{rows}
use Rattle.oe_core.proofs.works.Work.wanted.Goals as goal

pub returns-in-Deliveries : goal.returns-in-Deliveries
returns-in-Deliveries c = λ x. rw (← c.self.view_is, c.in-Deliveries.is)
    (c.wanted-in-Deliveries.ensures x (rows c.args.tables.now))
