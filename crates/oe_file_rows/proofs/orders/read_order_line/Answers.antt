use Rattle.std.proofs.Common.{◌≡◌, refl, subst}
use Rattle.oe_file_rows.specs.Line.{Left, group_columns, row_as}
use Rattle.oe_file_rows.specs.Rows.{order_line_forms, order_line_values}
use Rattle.oe_file_rows.proofs.LineFacts.{row_reads}
use Rattle.oe_file_rows.proofs.RowFacts.{order_lines_same}
use Rattle.oe_file_rows.proofs.orders.read_order_line.Goals as goal

pub returns : goal.returns
returns c =
    row_reads 0 order_line_forms order_line_values refl order_lines_same c.args.line.now c.order_line.result
    (subst (λ (l : Left). row_as order_line_values c.order_line.result ≡ group_columns order_line_forms l) c.of.ensures
    c.order_line.ensures)
