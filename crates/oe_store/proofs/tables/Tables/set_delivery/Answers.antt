use Rattle.std.proofs.Common.{refl, Some, ap, ◌∙◌}
use Rattle.oe_rows.specs.declared.orders.OrderLine.{OrderLine}
use Rattle.oe_model.specs.Changes.{rows_after, UpdateOrderLine}
use Rattle.oe_store.specs.Places.{rows}
use Rattle.oe_store.specs.contracts.tables.Tables.{the_view}
use Rattle.oe_store.proofs.ColumnFacts.{on_row, row_was, same_row, IsLeft, order_line_left}
use Rattle.oe_store.proofs.tables.Tables.set_delivery.Goals as goal

abbrev set : goal.After-self-1 → OrderLine → OrderLine
set c x = record x { delivery = Some c.args.stamp }

left : (c : goal.After-self-1) → IsLeft (UpdateOrderLine c.args.key.now (set c c.unwrap-line.result.now))
    (the_view c.self.inside)
    (record (the_view c.self.inside) { order_lines = c.row_mut.follows.lender (set c c.unwrap-line.result.now) })
left c =
    order_line_left (the_view c.self.inside) (c.row_mut.follows.lender (set c c.unwrap-line.result.now)) c.args.key.now
    (set c c.unwrap-line.result.now) c.unwrap-line.result.now
    (on_row c.row_mut.result c.unwrap-line.result c.unwrap-line.ensures
    (c.row_mut.follows.holds (set c c.unwrap-line.result.now)))
    (row_was c.row_mut.result c.unwrap-line.result c.unwrap-line.ensures _ c.row_mut.ensures.row) refl c.self.invariant

pub invariant_of-self : goal.invariant_of-self
invariant_of-self c = (left c).sound

pub returns-clause-rows : goal.returns-clause-rows
returns-clause-rows c =
    rw (← c.self.view_is)
    (λ x found. (left c).rows
    ∙ ap (λ y. rows_after (UpdateOrderLine c.args.key.now (set c y)) (rows (the_view c.self.inside)))
    (same_row c.row_mut.result c.unwrap-line.result c.unwrap-line.ensures _ x c.row_mut.ensures.row found))

pub returns-clause-places : goal.returns-clause-places
returns-clause-places c = rw (← c.self.view_is) (left c).places
