use Rattle.std.proofs.Common.{◌∙◌}
use Rattle.oe_checks.specs.Comparing.{against}
use Rattle.oe_ledgers.proofs.OrdersFigures.{is_open-kept}
use Rattle.oe_ledgers.proofs.NewOrdersFigures.{has_new_order-kept}
use Rattle.oe_checks.proofs.FindingFacts.{if_ok, alike_of_two}
use Rattle.oe_checks.proofs.conditions.condition_5.Goals as goal

pub returns : goal.returns
returns c of_orders of_new_orders kept_of_orders kept_of_new_orders =
    if_ok c.findings.result c.findings.ensures (λ found all. record {
      ordered = all.ordered;
      exact = λ k. all.exact k ∙ alike_of_two against
          (is_open-kept of_orders c.args.orders.now kept_of_orders k)
          (has_new_order-kept of_new_orders c.args.new_orders.now kept_of_new_orders k);
    })
