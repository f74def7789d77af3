use Rattle.std.proofs.Common.{◌∙◌}
use Rattle.oe_earlier.proofs.traces.Traces.settle.Goals as goal

pub returns-clause-stays : goal.returns-clause-stays
returns-clause-stays c t kept = record {
  warehouses = λ k. c.settle.ensures.totals k ∙ kept.warehouses k;
  districts = λ k. c.settle-2.ensures.totals k ∙ kept.districts k;
  customers = λ k. c.settle-3.ensures.totals k ∙ kept.customers k;
  items = λ k. c.settle-4.ensures.totals k ∙ kept.items k;
  stocks = λ k. c.settle-5.ensures.totals k ∙ kept.stocks k;
  residues = λ k. c.settle-6.ensures.totals k ∙ kept.residues k;
}
