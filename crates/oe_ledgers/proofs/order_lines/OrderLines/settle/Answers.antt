use Rattle.std.proofs.Common.{◌∙◌}
use Rattle.oe_ledgers.proofs.order_lines.OrderLines.settle.Goals as goal

pub returns-clause-stays : goal.returns-clause-stays
returns-clause-stays c facts kept = record {
  by_order = λ k. c.settle.ensures.totals k ∙ kept.by_order k;
  by_district = λ k. c.settle-2.ensures.totals k ∙ kept.by_district k;
  by_stock = λ k. c.settle-3.ensures.totals k ∙ kept.by_stock k;
}
