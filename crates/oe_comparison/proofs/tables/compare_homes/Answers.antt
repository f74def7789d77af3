use Rattle.std.proofs.lemmas.Result.{on_ok_weaker}
use Rattle.oe_comparison.proofs.TableFacts.{of_rows}
use Rattle.oe_comparison.proofs.tables.compare_homes.Goals as goal

pub returns-clause-compared : goal.returns-clause-compared
returns-clause-compared g c = on_ok_weaker c.compare_table-3.result
    (λ last. record {
      warehouse_faults = c.compare_table.new.faults;
      district_faults = c.compare_table-2.new.faults;
      warehouse_told = c.compare_table.new.report;
      district_told = c.compare_table-2.new.report;
      warehouses = of_rows _ _ c.warehouses-warehouses.ensures c.in_default.ensures;
      districts = of_rows _ _ c.districts-districts.ensures c.in_default-compare_table.ensures;
      customers = of_rows _ _ c.customers.ensures last;
    })
    c.compare_table-3.ensures
