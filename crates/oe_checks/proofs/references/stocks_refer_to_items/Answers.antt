use Rattle.std.proofs.Common.{◌∙◌}
use Rattle.oe_checks.specs.Comparing.{orphans_apart}
use Rattle.oe_ledgers.proofs.StocksFigures.{stocks_of_item-kept}
use Rattle.oe_ledgers.proofs.ItemsFigures.{item_rows-kept}
use Rattle.oe_checks.proofs.FindingFacts.{if_ok, alike_of_two}
use Rattle.oe_checks.proofs.references.stocks_refer_to_items.Goals as goal

pub returns : goal.returns
returns c of_stocks of_items kept_of_stocks few_of_stocks kept_of_items few_of_items =
    if_ok c.findings.result c.findings.ensures (λ found all. record {
      ordered = all.ordered;
      exact = λ k. all.exact k ∙ alike_of_two orphans_apart
          (stocks_of_item-kept of_stocks c.args.stocks.now kept_of_stocks few_of_stocks k)
          (item_rows-kept of_items c.args.items.now kept_of_items few_of_items k);
    })
