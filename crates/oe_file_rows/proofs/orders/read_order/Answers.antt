use Rattle.std.proofs.Common.{◌≡◌, refl, subst}
use Rattle.oe_file_rows.specs.Line.{Left, group_columns, row_as}
use Rattle.oe_file_rows.specs.Rows.{order_forms, order_values}
use Rattle.oe_file_rows.proofs.LineFacts.{row_reads}
use Rattle.oe_file_rows.proofs.RowFacts.{orders_same}
use Rattle.oe_file_rows.proofs.orders.read_order.Goals as goal

pub returns : goal.returns
returns c =
    row_reads 0 order_forms order_values refl orders_same c.args.line.now c.order.result
    (subst (λ (l : Left). row_as order_values c.order.result
    ≡ group_columns order_forms l) c.of.ensures c.order.ensures)
