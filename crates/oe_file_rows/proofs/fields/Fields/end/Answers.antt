use Rattle.std.proofs.Common.{sym}
use Rattle.oe_file_rows.specs.Line.{values_at_end}
use Rattle.oe_file_rows.proofs.FieldFacts.{not_ended}
use Rattle.oe_file_rows.proofs.fields.Fields.end.Goals as goal

pub returns-in-Some : goal.returns-in-Some
unfolding values_at_end
returns-in-Some c = rw (← c.self.view_is) (rw c.in-Some.is (sym (not_ended c.in-Some.field-0.now)))
