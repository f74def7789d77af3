use Rattle.std.proofs.Common.{◌∙◌}
use Rattle.oe_checks.specs.Comparing.{orphans_apart}
use Rattle.oe_ledgers.proofs.NewOrdersFigures.{new_order_rows-kept}
use Rattle.oe_ledgers.proofs.OrdersFigures.{order_rows-kept}
use Rattle.oe_checks.proofs.FindingFacts.{if_ok, alike_of_two}
use Rattle.oe_checks.proofs.references.new_orders_refer.Goals as goal

pub returns : goal.returns
returns c of_new_orders of_orders kept_of_new_orders few_of_new_orders kept_of_orders few_of_orders =
    if_ok c.findings.result c.findings.ensures (λ found all. record {
      ordered = all.ordered;
      exact = λ k. all.exact k ∙ alike_of_two orphans_apart
          (new_order_rows-kept of_new_orders c.args.new_orders.now kept_of_new_orders few_of_new_orders k)
          (order_rows-kept of_orders c.args.orders.now kept_of_orders few_of_orders k);
    })
