use Rattle.std.proofs.Common.{◌∙◌}
use Rattle.oe_checks.specs.Comparing.{against}
use Rattle.oe_ledgers.proofs.WarehousesFigures.{w_ytd-kept}
use Rattle.oe_ledgers.proofs.HistoriesFigures.{paid_in_warehouse-kept}
use Rattle.oe_checks.proofs.FindingFacts.{if_ok, alike_of_two}
use Rattle.oe_checks.proofs.conditions.condition_8.Goals as goal

pub returns : goal.returns
returns c of_warehouses of_histories kept_of_warehouses kept_of_histories few_of_histories amounts_of_histories =
    if_ok c.findings.result c.findings.ensures (λ found all. record {
      ordered = all.ordered;
      exact = λ k. all.exact k ∙ alike_of_two against
          (w_ytd-kept of_warehouses c.args.warehouses.now kept_of_warehouses k)
          (paid_in_warehouse-kept of_histories c.args.histories.now kept_of_histories few_of_histories
          amounts_of_histories k);
    })
