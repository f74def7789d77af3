use Rattle.std.proofs.Common.{None}
use Rattle.oe_rows.proofs.KeyFacts.{order_line_total, exact_order_line}
use Rattle.oe_model.specs.Changes.{InsertedOrderLine}
use Rattle.oe_store.specs.contracts.tables.Tables.{the_view}
use Rattle.oe_store.proofs.PlaceFacts.{place_of_row, same_order_lines}
use Rattle.oe_store.proofs.SoundFacts.{sound_put_back, order_line_numbered}
use Rattle.oe_store.proofs.tables.Tables.take_back_order_line.Goals as goal

pub invariant_of-self : goal.invariant_of-self
invariant_of-self c = rw c.blank.ensures.rows
    (sound_put_back (InsertedOrderLine c.args.key None) _ (rw (← c.self.view_is) at c.requires.schema)
    (order_line_numbered _ c.args.key c.self.invariant (rw (← c.self.view_is) at c.requires.there)) c.self.invariant)

pub returns-clause-places : goal.returns-clause-places
returns-clause-places c = rw (← c.self.view_is)
    (same_order_lines (the_view c.self.inside) _ c.args.key None c.blank.ensures.places
    (place_of_row order_line_total exact_order_line _ c.args.key (rw (← c.self.view_is) at c.requires.there)))
