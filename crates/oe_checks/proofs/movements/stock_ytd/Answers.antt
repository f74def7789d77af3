use Rattle.std.proofs.Common.{◌∙◌}
use Rattle.oe_checks.specs.Comparing.{against}
use Rattle.oe_ledgers.proofs.StocksFigures.{s_ytd-kept}
use Rattle.oe_ledgers.proofs.OrderLinesFigures.{ordered_quantity-kept}
use Rattle.oe_checks.proofs.FindingFacts.{if_ok, alike_of_two}
use Rattle.oe_checks.proofs.movements.stock_ytd.Goals as goal

pub returns : goal.returns
returns c of_stocks of_lines kept_of_stocks kept_of_lines few_of_lines numbers_of_lines =
    if_ok c.findings.result c.findings.ensures (λ found all. record {
      ordered = all.ordered;
      exact = λ k. all.exact k ∙ alike_of_two against
          (s_ytd-kept of_stocks c.args.stocks.now kept_of_stocks k)
          (ordered_quantity-kept of_lines c.args.lines.now kept_of_lines few_of_lines numbers_of_lines k);
    })
