use Rattle.std.proofs.Common.{◌∙◌}
use Rattle.oe_checks.specs.Comparing.{orphans_apart}
use Rattle.oe_ledgers.proofs.HistoriesFigures.{payments_of_customer-kept}
use Rattle.oe_ledgers.proofs.CustomersFigures.{customer_rows-kept}
use Rattle.oe_checks.proofs.FindingFacts.{if_ok, alike_of_two}
use Rattle.oe_checks.proofs.references.histories_refer_to_customers.Goals as goal

pub returns : goal.returns
returns c of_histories of_customers kept_of_histories few_of_histories kept_of_customers few_of_customers =
    if_ok c.findings.result c.findings.ensures (λ found all. record {
      ordered = all.ordered;
      exact = λ k. all.exact k ∙ alike_of_two orphans_apart
          (payments_of_customer-kept of_histories c.args.histories.now kept_of_histories few_of_histories k)
          (customer_rows-kept of_customers c.args.customers.now kept_of_customers few_of_customers k);
    })
