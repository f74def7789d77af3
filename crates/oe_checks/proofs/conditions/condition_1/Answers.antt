use Rattle.std.proofs.Common.{◌∙◌}
use Rattle.oe_checks.specs.Comparing.{against}
use Rattle.oe_ledgers.proofs.WarehousesFigures.{w_ytd-kept}
use Rattle.oe_ledgers.proofs.DistrictsFigures.{d_ytd_of_warehouse-kept}
use Rattle.oe_checks.proofs.FindingFacts.{if_ok, alike_of_two}
use Rattle.oe_checks.proofs.conditions.condition_1.Goals as goal

pub returns : goal.returns
returns c of_warehouses of_districts kept_of_warehouses kept_of_districts few_of_districts amounts_of_districts =
    if_ok c.findings.result c.findings.ensures (λ found all. record {
      ordered = all.ordered;
      exact = λ k. all.exact k ∙ alike_of_two against
          (w_ytd-kept of_warehouses c.args.warehouses.now kept_of_warehouses k)
          (d_ytd_of_warehouse-kept of_districts c.args.districts.now kept_of_districts few_of_districts
          amounts_of_districts k);
    })
