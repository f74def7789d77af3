use Rattle.std.proofs.Common.{◌∙◌}
use Rattle.oe_ledgers.proofs.stocks.Stocks.settle.Goals as goal

pub returns-clause-stays : goal.returns-clause-stays
returns-clause-stays c facts kept = record {
  by_stock = λ k. c.settle.ensures.totals k ∙ kept.by_stock k;
  by_warehouse = λ k. c.settle-2.ensures.totals k ∙ kept.by_warehouse k;
  by_item = λ k. c.settle-3.ensures.totals k ∙ kept.by_item k;
}
