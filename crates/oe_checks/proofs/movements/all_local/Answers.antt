use Rattle.std.proofs.Common.{◌∙◌}
use Rattle.oe_checks.specs.Comparing.{any_against}
use Rattle.oe_ledgers.proofs.OrdersFigures.{is_remote-kept}
use Rattle.oe_ledgers.proofs.OrderLinesFigures.{remote_lines-kept}
use Rattle.oe_checks.proofs.FindingFacts.{if_ok, alike_of_two}
use Rattle.oe_checks.proofs.movements.all_local.Goals as goal

pub returns : goal.returns
returns c of_orders of_lines kept_of_orders kept_of_lines few_of_lines =
    if_ok c.findings.result c.findings.ensures (λ found all. record {
      ordered = all.ordered;
      exact = λ k. all.exact k ∙ alike_of_two any_against
          (is_remote-kept of_orders c.args.orders.now kept_of_orders k)
          (remote_lines-kept of_lines c.args.lines.now kept_of_lines few_of_lines k);
    })
