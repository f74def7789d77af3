use Rattle.std.proofs.Common.{Some}
use Rattle.oe_rows.proofs.KeyFacts.{order_line_total, exact_order_line}
use Rattle.oe_model.specs.Changes.{UpdateOrderLine}
use Rattle.oe_store.specs.contracts.tables.Tables.{the_view}
use Rattle.oe_store.proofs.PlaceFacts.{place_of_row, same_order_lines}
use Rattle.oe_store.proofs.SoundFacts.{sound_changed, order_line_numbered}
use Rattle.oe_store.proofs.tables.Tables.update_order_line.Goals as goal

pub invariant_of-self : goal.invariant_of-self
invariant_of-self c = rw c.swap.ensures.rows
    (sound_changed (UpdateOrderLine c.args.key c.args.row) _ (rw (← c.self.view_is) at c.requires)
    (order_line_numbered _ c.args.key c.self.invariant (rw (← c.self.view_is) at c.requires.0)) c.self.invariant)

pub returns-clause-places : goal.returns-clause-places
returns-clause-places c = rw (← c.self.view_is)
    (same_order_lines (the_view c.self.inside) _ c.args.key (Some c.args.row) c.swap.ensures.places
    (place_of_row order_line_total exact_order_line _ c.args.key (rw (← c.self.view_is) at c.requires.0)))
