use Rattle.oe_model.specs.Rows.{Rows}
use Rattle.oe_store.specs.Places.{rows}
use Rattle.oe_enquiry.specs.Level.{is_short}
use Rattle.oe_enquiry.proofs.SoldFacts.{nth_has, picks_one}
use Rattle.oe_enquiry.proofs.level.list_short.Goals as goal

pub list_if_short-requires-clause-quantity : goal.list_if_short-requires-clause-quantity
list_if_short-requires-clause-quantity g c =
    let now : Rows = rows (g.R.RowsOf.tables_of c.args.then.now) in
    let past : Rows = g.R.RowsOf.rows_of c.args.then.now in
    let q = c.args.query.now in
    nth_has now past q.district.warehouse (is_short q past) c.loop-one.one-index c.args.sold.now c.one-item.result
    c.loop-one-test.true c.one-item.is c.requires.quantities

pub loop-one-preserved : goal.loop-one-preserved
loop-one-preserved g c =
    let now : Rows = rows (g.R.RowsOf.tables_of c.args.then.now) in
    let past : Rows = g.R.RowsOf.rows_of c.args.then.now in
    let q = c.args.query.now in
    picks_one now past q.district.warehouse (is_short q past) c.args.items.now c.loop-one.items
    c.list_if_short.new.items c.args.sold.now c.loop-one.one-index c.one-item.result c.loop-one.invariant
    c.loop-one-test.true c.one-item.is c.list_if_short.ensures.items c.list_if_short.ensures.few
