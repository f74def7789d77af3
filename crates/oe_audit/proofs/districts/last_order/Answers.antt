use Rattle.std.proofs.Common.{sym, ◌∙◌, ap, map, None, List, ℕ}
use Rattle.oe_rows.specs.declared.keys.OrderKey.{OrderKey}
use Rattle.oe_rows.specs.declared.orders.Order.{Order}
use Rattle.oe_rows.specs.Key.{district_cmp}
use Rattle.oe_model.specs.Audits.{order_numbers}
use Rattle.oe_model.specs.Rows.{Rows}
use Rattle.oe_model.specs.Keys.{district_of_order}
use Rattle.oe_store.specs.Places.{entries_of, rows}
use Rattle.oe_audit.specs.Walks.{entries_then}
use Rattle.oe_audit.proofs.StoodFacts.{orders_are}
use Rattle.oe_audit.proofs.WalkFacts.{highest_from, highest_is}
use Rattle.oe_audit.proofs.districts.last_order.Goals as goal

abbrev numbers : List (OrderKey × Order) → List ℕ
numbers es = map (λ e. e.0.order) es

pub loop-order-init : goal.loop-order-init
loop-order-init g c =
    let t = c.args.then.now in
    let past : Rows = g.R.RowsOf.rows_of t in
    ap (λ (es : List (OrderKey × Order)). highest_from None (numbers (entries_then
    (g.R.RowsOf.are_now t) past.orders es)))
    (c.into_iter-order-iterator.ensures.into_iter_gives ∙ c.orders_of-order-items.ensures
    ∙ ap (λ ts. entries_of district_cmp district_of_order c.args.key.now (rows ts).orders) c.tables.ensures)
    ∙ ap (λ es. highest_from None (numbers es))
    (sym (orders_are (rows (g.R.RowsOf.tables_of t)) past (g.R.RowsOf.are_now t)
    (g.met.R.RowsOf.same t) c.requires c.args.key.now))
    ∙ highest_is (order_numbers c.args.key.now past.orders)
