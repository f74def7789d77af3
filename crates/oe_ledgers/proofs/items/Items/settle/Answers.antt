use Rattle.std.proofs.Common.{◌∙◌}
use Rattle.oe_ledgers.proofs.items.Items.settle.Goals as goal

pub returns-clause-stays : goal.returns-clause-stays
returns-clause-stays c facts kept = record {
  by_item = λ k. c.settle.ensures.totals k ∙ kept.by_item k;
}
