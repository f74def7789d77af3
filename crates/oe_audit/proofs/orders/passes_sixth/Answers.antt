use Rattle.std.proofs.Common.{sym, ◌∙◌, ap, length}
use Rattle.oe_rows.specs.Key.{order_cmp}
use Rattle.oe_model.specs.Keys.{order_of_line}
use Rattle.oe_store.specs.Places.{entries_of, rows}
use Rattle.oe_audit.specs.Walks.{entries_then}
use Rattle.oe_audit.proofs.StoodFacts.{lines_were}
use Rattle.oe_audit.proofs.SumFacts.{few_lines, all_lines}
use Rattle.oe_audit.proofs.orders.passes_sixth.Goals as goal

pub returns-then-not-enough : goal.returns-then-not-enough
returns-then-not-enough g c =
    let t = c.args.then.now in
    few_lines _ c.args.line_count _ _ c.takes-enough.ensures.enough c.if-not-enough.true
    (lines_were (rows (g.R.RowsOf.tables_of t)) (g.R.RowsOf.rows_of t) (g.R.RowsOf.are_now t)
    (g.met.R.RowsOf.same t) c.requires c.args.key.now
    ∙ ap (λ es. length (entries_then (g.R.RowsOf.are_now t) (g.R.RowsOf.rows_of t).order_lines es))
    (sym (c.order_lines_of-lines.ensures ∙ ap (λ ts. entries_of order_cmp order_of_line c.args.key.now
    (rows ts).order_lines) c.tables.ensures)))

pub returns : goal.returns
returns g c =
    let t = c.args.then.now in
    all_lines _ _ c.args.line_count _ _ _ c.takes-enough.ensures.taken c.if-not-enough.false c.has_more-has_more.ensures
    (lines_were (rows (g.R.RowsOf.tables_of t)) (g.R.RowsOf.rows_of t) (g.R.RowsOf.are_now t)
    (g.met.R.RowsOf.same t) c.requires c.args.key.now
    ∙ ap (λ es. length (entries_then (g.R.RowsOf.are_now t) (g.R.RowsOf.rows_of t).order_lines es))
    (sym (c.order_lines_of-lines.ensures ∙ ap (λ ts. entries_of order_cmp order_of_line c.args.key.now
    (rows ts).order_lines) c.tables.ensures)))
