use Rattle.std.proofs.Common.{◌∙◌}
use Rattle.oe_checks.specs.Comparing.{orphans_apart}
use Rattle.oe_ledgers.proofs.StocksFigures.{stocks_of_warehouse-kept}
use Rattle.oe_ledgers.proofs.WarehousesFigures.{warehouse_rows-kept}
use Rattle.oe_checks.proofs.FindingFacts.{if_ok, alike_of_two}
use Rattle.oe_checks.proofs.references.stocks_refer_to_warehouses.Goals as goal

pub returns : goal.returns
returns c of_stocks of_warehouses kept_of_stocks few_of_stocks kept_of_warehouses few_of_warehouses =
    if_ok c.findings.result c.findings.ensures (λ found all. record {
      ordered = all.ordered;
      exact = λ k. all.exact k ∙ alike_of_two orphans_apart
          (stocks_of_warehouse-kept of_stocks c.args.stocks.now kept_of_stocks few_of_stocks k)
          (warehouse_rows-kept of_warehouses c.args.warehouses.now kept_of_warehouses few_of_warehouses k);
    })
