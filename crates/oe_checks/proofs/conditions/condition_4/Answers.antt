use Rattle.std.proofs.Common.{◌∙◌}
use Rattle.oe_checks.specs.Comparing.{even}
use Rattle.oe_ledgers.proofs.OrdersFigures.{lines_asked-kept}
use Rattle.oe_ledgers.proofs.OrderLinesFigures.{lines_there-kept}
use Rattle.oe_checks.proofs.FindingFacts.{if_ok, alike_of_two}
use Rattle.oe_checks.proofs.conditions.condition_4.Goals as goal

pub returns : goal.returns
returns c of_orders of_lines kept_of_orders few_of_orders numbers_of_orders kept_of_lines few_of_lines =
    if_ok c.findings.result c.findings.ensures (λ found all. record {
      ordered = all.ordered;
      exact = λ k. all.exact k ∙ alike_of_two even
          (lines_asked-kept of_orders c.args.orders.now kept_of_orders few_of_orders numbers_of_orders k)
          (lines_there-kept of_lines c.args.lines.now kept_of_lines few_of_lines k);
    })
