use Rattle.std.proofs.Common.{◌∙◌}
use Rattle.oe_checks.specs.Comparing.{orphans_apart}
use Rattle.oe_ledgers.proofs.OrderLinesFigures.{lines_of_stock-kept}
use Rattle.oe_ledgers.proofs.StocksFigures.{stock_rows-kept}
use Rattle.oe_checks.proofs.FindingFacts.{if_ok, alike_of_two}
use Rattle.oe_checks.proofs.references.lines_refer_to_stocks.Goals as goal

pub returns : goal.returns
returns c of_lines of_stocks kept_of_lines few_of_lines kept_of_stocks few_of_stocks =
    if_ok c.findings.result c.findings.ensures (λ found all. record {
      ordered = all.ordered;
      exact = λ k. all.exact k ∙ alike_of_two orphans_apart
          (lines_of_stock-kept of_lines c.args.lines.now kept_of_lines few_of_lines k)
          (stock_rows-kept of_stocks c.args.stocks.now kept_of_stocks few_of_stocks k);
    })
