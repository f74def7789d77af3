use Rattle.std.proofs.Common.{◌∙◌}
use Rattle.oe_ledgers.proofs.histories.Histories.settle.Goals as goal

pub returns-clause-stays : goal.returns-clause-stays
returns-clause-stays c facts kept = record {
  by_customer = λ k. c.settle.ensures.totals k ∙ kept.by_customer k;
  by_district = λ k. c.settle-2.ensures.totals k ∙ kept.by_district k;
  by_warehouse = λ k. c.settle-3.ensures.totals k ∙ kept.by_warehouse k;
}
