use Rattle.std.proofs.Common.{◌∙◌, ap}
use Rattle.std.specs.Option.{option_map}
use Rattle.oe_tally.specs.Tallies.{total}
use Rattle.oe_ledgers.specs.declared.takings.Takings.{Takings}
use Rattle.oe_ledgers.specs.Keys.{same_customer}
use Rattle.oe_ledgers.specs.Sums.{takings_joined}
use Rattle.oe_ledgers.specs.Figures.{paid_by_customer}
use Rattle.oe_ledgers.proofs.CustomersFigures.{c_balance-kept}
use Rattle.oe_ledgers.proofs.HistoriesFigures.{paid_by_customer-kept}
use Rattle.oe_checks.specs.Comparing.{against}
use Rattle.oe_checks.specs.Deliveries.{delivered_to}
use Rattle.oe_checks.proofs.FindingFacts.{if_ok, alike_of_two}
use Rattle.oe_checks.proofs.AccountFacts.{net-of, delivered-bounded, paid-bounded}
use Rattle.oe_checks.proofs.accounts.condition_10.Goals as goal

pub returns : goal.returns
returns c cs os ls hs kept_customers delivered few_lines amounts_lines kept_histories few_histories amounts_histories =
    if_ok c.findings.result c.findings.ensures (λ found all. record {
      ordered = all.ordered;
      exact = λ k. all.exact k ∙ alike_of_two against
          (c_balance-kept cs c.args.customers.now kept_customers k)
          (ap (option_map (λ (t : Takings). t.amount)) (c.in-Ok.ensures.sums k)
          ∙ net-of (total same_customer takings_joined c.args.delivered.now k)
          (total same_customer takings_joined c.args.histories.now.by_customer k)
          (delivered_to os ls k) (paid_by_customer hs k) (delivered k)
          (paid_by_customer-kept hs c.args.histories.now kept_histories few_histories amounts_histories k)
          (delivered-bounded os ls k few_lines amounts_lines) (paid-bounded hs k few_histories amounts_histories));
    })
