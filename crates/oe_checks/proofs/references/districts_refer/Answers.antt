use Rattle.std.proofs.Common.{◌∙◌}
use Rattle.oe_checks.specs.Comparing.{orphans_apart}
use Rattle.oe_ledgers.proofs.DistrictsFigures.{districts_of_warehouse-kept}
use Rattle.oe_ledgers.proofs.WarehousesFigures.{warehouse_rows-kept}
use Rattle.oe_checks.proofs.FindingFacts.{if_ok, alike_of_two}
use Rattle.oe_checks.proofs.references.districts_refer.Goals as goal

pub returns : goal.returns
returns c of_districts of_warehouses kept_of_districts few_of_districts kept_of_warehouses few_of_warehouses =
    if_ok c.findings.result c.findings.ensures (λ found all. record {
      ordered = all.ordered;
      exact = λ k. all.exact k ∙ alike_of_two orphans_apart
          (districts_of_warehouse-kept of_districts c.args.districts.now kept_of_districts few_of_districts k)
          (warehouse_rows-kept of_warehouses c.args.warehouses.now kept_of_warehouses few_of_warehouses k);
    })
