use Rattle.std.proofs.Common.{◌≡◌, refl, subst}
use Rattle.oe_file_rows.specs.Line.{Left, group_columns, row_as}
use Rattle.oe_file_rows.specs.Rows.{warehouse_forms, warehouse_values}
use Rattle.oe_file_rows.proofs.LineFacts.{row_reads}
use Rattle.oe_file_rows.proofs.RowFacts.{warehouses_same}
use Rattle.oe_file_rows.proofs.warehouses.read_warehouse.Goals as goal

pub returns : goal.returns
returns c =
    row_reads 0 warehouse_forms warehouse_values refl warehouses_same c.args.line.now c.warehouse.result
    (subst (λ (l : Left). row_as warehouse_values c.warehouse.result ≡ group_columns warehouse_forms l) c.of.ensures
    c.warehouse.ensures)
