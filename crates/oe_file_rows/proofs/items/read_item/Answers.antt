use Rattle.std.proofs.Common.{◌≡◌, refl, subst}
use Rattle.oe_file_rows.specs.Line.{Left, group_columns, row_as}
use Rattle.oe_file_rows.specs.Rows.{item_forms, item_values}
use Rattle.oe_file_rows.proofs.LineFacts.{row_reads}
use Rattle.oe_file_rows.proofs.RowFacts.{items_same}
use Rattle.oe_file_rows.proofs.items.read_item.Goals as goal

pub returns : goal.returns
returns c =
    row_reads 0 item_forms item_values refl items_same c.args.line.now c.item.result
    (subst (λ (l : Left). row_as item_values c.item.result ≡ group_columns item_forms l) c.of.ensures c.item.ensures)
