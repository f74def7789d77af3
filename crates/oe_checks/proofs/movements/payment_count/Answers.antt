use Rattle.std.proofs.Common.{◌∙◌}
use Rattle.oe_checks.specs.Comparing.{against}
use Rattle.oe_ledgers.proofs.CustomersFigures.{c_payments-kept}
use Rattle.oe_ledgers.proofs.HistoriesFigures.{payments_of_customer-kept}
use Rattle.oe_checks.proofs.FindingFacts.{if_ok, alike_of_two}
use Rattle.oe_checks.proofs.movements.payment_count.Goals as goal

pub returns : goal.returns
returns c of_customers of_histories kept_of_customers kept_of_histories few_of_histories =
    if_ok c.findings.result c.findings.ensures (λ found all. record {
      ordered = all.ordered;
      exact = λ k. all.exact k ∙ alike_of_two against
          (c_payments-kept of_customers c.args.customers.now kept_of_customers k)
          (payments_of_customer-kept of_histories c.args.histories.now kept_of_histories few_of_histories k);
    })
