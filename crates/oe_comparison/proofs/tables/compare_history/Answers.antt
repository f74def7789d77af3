use Rattle.oe_comparison.proofs.tables.compare_history.Goals as goal

pub returns-in-Ok-compare_histories : goal.returns-in-Ok-compare_histories
returns-in-Ok-compare_histories g c = record {
  rows = c.in-Ok.theirs;
  read = c.in-Ok.ensures;
  told = c.in-Ok-compare_histories.ensures;
}
