use Rattle.std.proofs.Common.{[]}
use Rattle.oe_store.specs.Places.{rows}
use Rattle.oe_enquiry.specs.Level.{is_short, items_sold, list_with}
use Rattle.oe_enquiry.proofs.SoldFacts.{Lists}
use Rattle.oe_enquiry.proofs.level.short_items.Given as goal

abbrev pub invariant-loop : goal.invariant-loop
invariant-loop g l =
    Lists (rows (g.R.RowsOf.tables_of l.then)) (g.R.RowsOf.rows_of l.then) l.query.district.warehouse
    (is_short l.query (g.R.RowsOf.rows_of l.then))
    (list_with (is_short l.query (g.R.RowsOf.rows_of l.then)) []
    (items_sold l.query.district l.fn.next (g.R.RowsOf.rows_of l.then).order_lines)) l.items l.walk l.counter
