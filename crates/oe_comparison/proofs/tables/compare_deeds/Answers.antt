use Rattle.std.proofs.lemmas.Result.{on_ok_weaker}
use Rattle.oe_comparison.proofs.TableFacts.{of_rows}
use Rattle.oe_comparison.proofs.tables.compare_deeds.Goals as goal

pub returns-clause-compared : goal.returns-clause-compared
returns-clause-compared g c = on_ok_weaker c.compare_table-2.result
    (λ last. record {
      history_faults = c.compare_history.new.faults;
      new_order_faults = c.compare_table.new.faults;
      history_told = c.compare_history.new.report;
      new_order_told = c.compare_table.new.report;
      histories = of_rows _ _ c.histories-histories.ensures c.in_default.ensures;
      new_orders = of_rows _ _ c.new_orders-new_orders.ensures c.in_default-compare_table.ensures;
      orders = of_rows _ _ c.orders.ensures last;
    })
    c.compare_table-2.ensures
