use Rattle.oe_store.specs.contracts.tables.Tables.{the_view}
use Rattle.oe_store.proofs.GivenUpFacts.{gave_up_new_order}
use Rattle.oe_store.proofs.tables.Tables.give_up_new_order.Goals as goal

pub invariant_of-self : goal.invariant_of-self
invariant_of-self c = rw c.give_up.ensures.rows c.self.invariant

pub returns-clause-places : goal.returns-clause-places
returns-clause-places c = rw (← c.self.view_is)
    (gave_up_new_order (the_view c.self.inside) _ c.args.key c.give_up.ensures.places)
