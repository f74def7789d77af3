use Rattle.std.proofs.Common.{Some}
use Rattle.oe_rows.proofs.KeyFacts.{new_order_total, exact_new_order}
use Rattle.oe_model.specs.Changes.{DeletedNewOrder}
use Rattle.oe_store.specs.contracts.tables.Tables.{the_view}
use Rattle.oe_store.proofs.PlaceFacts.{blanked_without_row, same_new_orders}
use Rattle.oe_store.proofs.SoundFacts.{sound_put_back, refilled_numbered}
use Rattle.oe_store.proofs.tables.Tables.refill_new_order.Goals as goal

pub refill-requires : goal.refill-requires
refill-requires c = blanked_without_row new_order_total exact_new_order _ c.args.key
    (rw (← c.self.view_is) at c.requires.place) (rw (← c.self.view_is) at c.requires.absent)

pub invariant_of-self : goal.invariant_of-self
invariant_of-self c =
    let schema = rw (← c.self.view_is) at c.requires.schema in
    rw c.refill.ensures.rows
    (sound_put_back (DeletedNewOrder c.args.key (Some c.args.row)) _ schema
    (refilled_numbered _ c.args.key c.args.row schema c.self.invariant) c.self.invariant)

pub returns-clause-places : goal.returns-clause-places
returns-clause-places c = rw (← c.self.view_is)
    (same_new_orders (the_view c.self.inside) _ c.args.key (Some c.args.row) c.refill.ensures.places
    (rw (← c.self.view_is) at c.requires.place))
