use Rattle.std.proofs.Common.{◌∙◌}
use Rattle.oe_checks.specs.Comparing.{against}
use Rattle.oe_ledgers.proofs.CustomersFigures.{c_deliveries-kept}
use Rattle.oe_ledgers.proofs.OrdersFigures.{deliveries_to_customer-kept}
use Rattle.oe_checks.proofs.FindingFacts.{if_ok, alike_of_two}
use Rattle.oe_checks.proofs.movements.delivery_count.Goals as goal

pub returns : goal.returns
returns c of_customers of_orders kept_of_customers kept_of_orders few_of_orders =
    if_ok c.findings.result c.findings.ensures (λ found all. record {
      ordered = all.ordered;
      exact = λ k. all.exact k ∙ alike_of_two against
          (c_deliveries-kept of_customers c.args.customers.now kept_of_customers k)
          (deliveries_to_customer-kept of_orders c.args.orders.now kept_of_orders few_of_orders k);
    })
