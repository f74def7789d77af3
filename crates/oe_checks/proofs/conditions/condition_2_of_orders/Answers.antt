use Rattle.std.proofs.Common.{◌∙◌}
use Rattle.oe_checks.specs.Comparing.{next}
use Rattle.oe_ledgers.proofs.DistrictsFigures.{d_next_order-kept}
use Rattle.oe_ledgers.proofs.OrdersFigures.{greatest_order-kept}
use Rattle.oe_checks.proofs.FindingFacts.{if_ok, alike_of_two}
use Rattle.oe_checks.proofs.conditions.condition_2_of_orders.Goals as goal

pub returns : goal.returns
returns c of_districts of_orders kept_of_districts kept_of_orders =
    if_ok c.findings.result c.findings.ensures (λ found all. record {
      ordered = all.ordered;
      exact = λ k. all.exact k ∙ alike_of_two next
          (d_next_order-kept of_districts c.args.districts.now kept_of_districts k)
          (greatest_order-kept of_orders c.args.orders.now kept_of_orders k);
    })
