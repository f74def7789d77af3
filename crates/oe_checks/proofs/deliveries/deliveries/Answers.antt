use Rattle.std.proofs.Common.{sym, subst}
use Rattle.oe_tally.specs.Walks.{AreAll, wrong_at}
use Rattle.oe_ledgers.specs.Keys.{same_order, order_cmp}
use Rattle.oe_ledgers.specs.Sums.{orders_joined, lines_joined}
use Rattle.oe_checks.specs.Deliveries.{delivery}
use Rattle.oe_checks.proofs.FindingFacts.{if_ok}
use Rattle.oe_checks.proofs.DeliveryFacts.{delivered-kept}
use Rattle.oe_checks.proofs.deliveries.deliveries.Goals as goal

pub returns-clause-sums : goal.returns-clause-sums
returns-clause-sums c of_orders of_lines kept_orders kept_lines few amounts =
    let all = subst (AreAll order_cmp same_order
    (wrong_at same_order orders_joined lines_joined delivery c.args.orders.now.by_order c.args.lines.now.by_order))
    (sym c.deref.ensures.value) c.in-Ok.ensures in
    if_ok c.tally_of.result c.tally_of.ensures.kept (λ tally kept.
    delivered-kept of_orders of_lines c.args.orders.now c.args.lines.now kept_orders kept_lines c.deref.result.now all
    tally kept few amounts)
