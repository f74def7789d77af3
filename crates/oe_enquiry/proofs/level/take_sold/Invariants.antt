use Rattle.oe_store.specs.Places.{rows}
use Rattle.oe_enquiry.proofs.SoldFacts.{Takes}
use Rattle.oe_enquiry.proofs.level.take_sold.Given as goal

abbrev pub invariant-loop : goal.invariant-loop
invariant-loop g l =
    Takes (rows (g.R.RowsOf.tables_of l.then)) (g.R.RowsOf.rows_of l.then) l.warehouse l.fn.walk l.counter l.sold l.walk
