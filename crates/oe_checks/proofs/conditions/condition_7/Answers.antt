use Rattle.std.proofs.Common.{◌∙◌}
use Rattle.oe_checks.specs.Comparing.{all_or_none}
use Rattle.oe_ledgers.proofs.OrdersFigures.{is_delivered-kept}
use Rattle.oe_ledgers.proofs.OrderLinesFigures.{lines_of_order-kept}
use Rattle.oe_ledgers.proofs.OrderLinesFigures.{delivered_lines-kept}
use Rattle.oe_checks.proofs.FindingFacts.{if_ok, alike_of_three}
use Rattle.oe_checks.proofs.conditions.condition_7.Goals as goal

pub returns : goal.returns
returns c of_orders of_lines kept_of_orders kept_of_lines few_of_lines =
    if_ok c.findings.result c.findings.ensures (λ found all. record {
      ordered = all.ordered;
      exact = λ k. all.exact k ∙ alike_of_three all_or_none
          (is_delivered-kept of_orders c.args.orders.now kept_of_orders k)
          (lines_of_order-kept of_lines c.args.lines.now kept_of_lines few_of_lines k)
          (delivered_lines-kept of_lines c.args.lines.now kept_of_lines few_of_lines k);
    })
