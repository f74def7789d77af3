use Rattle.std.proofs.Common.{◌≡◌, refl, subst}
use Rattle.oe_file_rows.specs.Line.{Left, group_columns, row_as}
use Rattle.oe_file_rows.specs.Rows.{new_order_forms, new_order_values}
use Rattle.oe_file_rows.proofs.LineFacts.{row_reads}
use Rattle.oe_file_rows.proofs.RowFacts.{new_orders_same}
use Rattle.oe_file_rows.proofs.orders.read_new_order.Goals as goal

pub returns : goal.returns
returns c =
    row_reads 0 new_order_forms new_order_values refl new_orders_same c.args.line.now c.new_order.result
    (subst (λ (l : Left). row_as new_order_values c.new_order.result ≡ group_columns new_order_forms l) c.of.ensures
    c.new_order.ensures)
