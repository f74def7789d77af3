use Rattle.std.proofs.Common.{◌∙◌}
use Rattle.oe_ledgers.proofs.CustomersFigures.{c_balance-kept, c_ytd_payment-kept}
use Rattle.oe_checks.specs.Comparing.{against}
use Rattle.oe_checks.specs.Accounts.{figure_sum}
use Rattle.oe_checks.proofs.FindingFacts.{if_ok, alike_of_two}
use Rattle.oe_checks.proofs.accounts.condition_12.Goals as goal

pub returns : goal.returns
returns c cs os ls kept_customers delivered =
    if_ok c.findings.result c.findings.ensures (λ found all. record {
      ordered = all.ordered;
      exact = λ k. all.exact k ∙ alike_of_two against
          (alike_of_two figure_sum (c_balance-kept cs c.args.customers.now kept_customers k)
          (c_ytd_payment-kept cs c.args.customers.now kept_customers k))
          (delivered k);
    })
