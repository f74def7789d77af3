use Rattle.std.proofs.Common.{◌∙◌}
use Rattle.oe_ledgers.proofs.warehouses.Warehouses.settle.Goals as goal

pub returns-clause-stays : goal.returns-clause-stays
returns-clause-stays c facts kept = record {
  by_warehouse = λ k. c.settle.ensures.totals k ∙ kept.by_warehouse k;
}
