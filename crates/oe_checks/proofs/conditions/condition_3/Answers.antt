use Rattle.std.proofs.Common.{◌∙◌}
use Rattle.oe_checks.specs.Comparing.{span}
use Rattle.oe_ledgers.proofs.NewOrdersFigures.{greatest_new_order-kept}
use Rattle.oe_ledgers.proofs.NewOrdersFigures.{least_new_order-kept}
use Rattle.oe_ledgers.proofs.NewOrdersFigures.{new_orders_of_district-kept}
use Rattle.oe_checks.proofs.FindingFacts.{if_ok, alike_of_three}
use Rattle.std.proofs.Common.{subst, sym}
use Rattle.std.specs.List.Sorted.{IsStrictlySortedBy}
use Rattle.oe_tally.specs.Tallies.{IsSettled}
use Rattle.oe_ledgers.specs.Keys.{district_cmp}
use Rattle.oe_checks.proofs.conditions.condition_3.Goals as goal

pub findings-requires-clause-right : goal.findings-requires-clause-right
unfolding IsStrictlySortedBy
findings-requires-clause-right c = subst (IsSettled district_cmp) (sym c.new-nothing.ensures) tt

pub returns : goal.returns
returns c of_new_orders kept_of_new_orders few_of_new_orders =
    if_ok c.findings.result c.findings.ensures (λ found all. record {
      ordered = all.ordered;
      exact = λ k. all.exact k ∙ alike_of_three span
          (greatest_new_order-kept of_new_orders c.args.new_orders.now kept_of_new_orders k)
          (least_new_order-kept of_new_orders c.args.new_orders.now kept_of_new_orders k)
          (new_orders_of_district-kept of_new_orders c.args.new_orders.now kept_of_new_orders few_of_new_orders k);
    })
