use Rattle.oe_store.specs.Places.{rows}
use Rattle.oe_enquiry.specs.Level.{is_short}
use Rattle.oe_enquiry.proofs.SoldFacts.{Picks}
use Rattle.oe_enquiry.proofs.level.list_short.Given as goal

abbrev pub invariant-loop-one : goal.invariant-loop-one
invariant-loop-one g l =
    Picks (rows (g.R.RowsOf.tables_of l.then)) (g.R.RowsOf.rows_of l.then) l.query.district.warehouse
    (is_short l.query (g.R.RowsOf.rows_of l.then)) l.fn.items l.items l.sold l.one-index
