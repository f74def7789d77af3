use Rattle.oe_file_rows.proofs.FieldFacts.{field_count, eight}
use Rattle.oe_file_rows.proofs.histories.has_eight.Goals as goal

pub returns : goal.returns
returns c = rw c.tabs.ensures (eight _ _ (field_count c.args.line.now))
