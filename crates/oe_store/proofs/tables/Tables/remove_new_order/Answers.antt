use Rattle.std.proofs.Common.{None}
use Rattle.oe_model.specs.Changes.{InsertedNewOrder}
use Rattle.oe_store.specs.contracts.tables.Tables.{the_view}
use Rattle.oe_store.proofs.LostFacts.{lost_new_orders}
use Rattle.oe_store.proofs.SoundFacts.{sound_put_back, new_order_numbered}
use Rattle.oe_store.proofs.tables.Tables.remove_new_order.Goals as goal

pub invariant_of-self : goal.invariant_of-self
invariant_of-self c = rw c.remove.ensures.rows
    (sound_put_back (InsertedNewOrder c.args.key None) _ (rw (← c.self.view_is) at c.requires.schema)
    (new_order_numbered _ c.args.key c.self.invariant (rw (← c.self.view_is) at c.requires.there)) c.self.invariant)

pub returns-clause-places : goal.returns-clause-places
returns-clause-places c = rw (← c.self.view_is)
    (lost_new_orders (the_view c.self.inside) _ c.args.key c.remove.ensures.places)
