use Rattle.std.proofs.lemmas.Result.{on_ok_weaker}
use Rattle.oe_comparison.proofs.TableFacts.{of_rows}
use Rattle.oe_comparison.proofs.tables.compare_goods.Goals as goal

pub returns-clause-compared : goal.returns-clause-compared
returns-clause-compared g c = on_ok_weaker c.compare_table-3.result
    (λ last. record {
      order_line_faults = c.compare_table.new.faults;
      item_faults = c.compare_table-2.new.faults;
      order_line_told = c.compare_table.new.report;
      item_told = c.compare_table-2.new.report;
      order_lines = of_rows _ _ c.order_lines-order_lines.ensures c.in_default.ensures;
      items = of_rows _ _ c.items-items.ensures c.in_default-compare_table.ensures;
      stocks = of_rows _ _ c.stocks.ensures last;
    })
    c.compare_table-3.ensures
