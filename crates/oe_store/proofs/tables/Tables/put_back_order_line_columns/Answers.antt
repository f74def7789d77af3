use Rattle.std.proofs.Common.{Some}
use Rattle.oe_model.specs.Changes.{ChangedOrderLine}
use Rattle.oe_store.specs.contracts.tables.Tables.{the_view}
use Rattle.oe_store.proofs.ColumnFacts.{on_row, row_was}
use Rattle.oe_store.proofs.BackFacts.{IsBack, order_line_back}
use Rattle.oe_store.proofs.tables.Tables.put_back_order_line_columns.Goals as goal

left : (c : goal.After-self-1) → IsBack (ChangedOrderLine c.args.key (Some c.args.columns)) (the_view c.self.inside)
    (record (the_view c.self.inside) { order_lines = c.row_mut.follows.lender c.put_on.new.row })
left c =
    order_line_back (the_view c.self.inside) (c.row_mut.follows.lender c.put_on.new.row) c.args.key c.args.columns
    c.unwrap-line.result.now c.put_on.new.row
    (on_row c.row_mut.result c.unwrap-line.result c.unwrap-line.ensures
    (c.row_mut.follows.holds c.put_on.new.row)) c.put_on.ensures
    (row_was c.row_mut.result c.unwrap-line.result c.unwrap-line.ensures _ c.row_mut.ensures.row)
    (rw (← c.self.view_is) at c.requires.schema) c.self.invariant

pub invariant_of-self : goal.invariant_of-self
invariant_of-self c = (left c).sound

pub returns-clause-rows : goal.returns-clause-rows
returns-clause-rows c = rw (← c.self.view_is) (left c).rows

pub returns-clause-places : goal.returns-clause-places
returns-clause-places c = rw (← c.self.view_is) (left c).places
