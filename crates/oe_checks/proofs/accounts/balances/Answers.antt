use Rattle.std.proofs.Common.{◌∙◌, sym, subst}
use Rattle.oe_tally.specs.Walks.{AreAll, wrong_at}
use Rattle.oe_ledgers.specs.Keys.{same_customer, customer_cmp}
use Rattle.oe_ledgers.specs.Sums.{takings_joined}
use Rattle.oe_checks.specs.Accounts.{net}
use Rattle.oe_checks.proofs.FindingFacts.{if_ok}
use Rattle.oe_checks.proofs.RegroupFacts.{total-found}
use Rattle.oe_checks.proofs.AccountFacts.{customers_total, customers_tie}
use Rattle.oe_checks.proofs.accounts.balances.Goals as goal

pub returns-clause-sums : goal.returns-clause-sums
returns-clause-sums c =
    let all = subst (AreAll customer_cmp same_customer
    (wrong_at same_customer takings_joined takings_joined net c.args.delivered.now c.args.histories.now.by_customer))
    (sym c.deref.ensures.value) c.in-Ok.ensures in
    if_ok c.of.result c.of.ensures.totals (λ tally same k.
    same k
    ∙ total-found customer_cmp customers_total customers_tie takings_joined c.deref.result.now k all.ordered
    ∙ all.exact k)
