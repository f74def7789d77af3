use Rattle.std.proofs.Common.{ℕ, sym, ◌∙◌, length, ap}
use Rattle.std.specs.Prelude.{◌==◌, sum_by}
use Rattle.oe_rows.specs.declared.keys.OrderKey.{OrderKey}
use Rattle.oe_rows.specs.declared.orders.Order.{Order}
use Rattle.oe_rows.specs.Key.{district_cmp}
use Rattle.oe_model.specs.Rows.{Rows}
use Rattle.oe_model.specs.Keys.{district_of_order, order_of_line}
use Rattle.oe_store.specs.Places.{entries_of, rows}
use Rattle.oe_audit.specs.Walks.{entries_then}
use Rattle.oe_audit.proofs.DistrictFacts.{agrees}
use Rattle.oe_audit.proofs.StoodFacts.{asked_was, there_was}
use Rattle.oe_audit.proofs.districts.passes_fourth.Goals as goal

abbrev count : OrderKey × Order → ℕ
count e = e.1.line_count

pub loop-order-init : goal.loop-order-init
loop-order-init g c =
    let t = c.args.then.now in
    let past : Rows = g.R.RowsOf.rows_of t in
    (λ i.
    sum_by count (entries_then (g.R.RowsOf.are_now t) past.orders
    ((c.into_iter-order-iterator.ensures.into_iter_gives ∙ c.orders_of-order-items.ensures
    ∙ ap (λ ts. entries_of district_cmp district_of_order c.args.key.now (rows ts).orders) c.tables-2.ensures) i))
    == length (entries_then (g.R.RowsOf.are_now t) past.order_lines ((c.order_lines_of_district-lines.ensures
    ∙ ap (λ ts. entries_of district_cmp (λ k. district_of_order (order_of_line k)) c.args.key.now
    (rows ts).order_lines) c.tables.ensures) i)))
    ∙ (λ i. sym (asked_was (rows (g.R.RowsOf.tables_of t)) past (g.R.RowsOf.are_now t)
    (g.met.R.RowsOf.same t) c.requires c.args.key.now) i == sym
    (there_was (rows (g.R.RowsOf.tables_of t)) past (g.R.RowsOf.are_now t)
    (g.met.R.RowsOf.same t) c.requires c.args.key.now) i)
    ∙ agrees past c.args.key.now
