use Rattle.std.proofs.Common.{◌≡◌, refl, subst}
use Rattle.oe_file_rows.specs.Line.{Left, group_columns, row_as}
use Rattle.oe_file_rows.specs.Rows.{stock_forms, stock_values}
use Rattle.oe_file_rows.proofs.LineFacts.{row_reads}
use Rattle.oe_file_rows.proofs.RowFacts.{stocks_same}
use Rattle.oe_file_rows.proofs.items.read_stock.Goals as goal

pub returns : goal.returns
returns c =
    row_reads 0 stock_forms stock_values refl stocks_same c.args.line.now c.stock.result
    (subst (λ (l : Left). row_as stock_values c.stock.result
    ≡ group_columns stock_forms l) c.of.ensures c.stock.ensures)
