use Rattle.oe_comparison.proofs.tables.compare_table.Goals as goal

pub returns-in-Ok-compare_rows : goal.returns-in-Ok-compare_rows
returns-in-Ok-compare_rows g c = record {
  rows = c.in-Ok.theirs;
  read = c.in-Ok.ensures;
  told = c.in-Ok-compare_rows.ensures;
}
