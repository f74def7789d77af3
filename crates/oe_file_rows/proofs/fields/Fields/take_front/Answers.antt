use Rattle.std.specs.Option.{option_copied}
use Rattle.oe_file_rows.proofs.FieldFacts.{held}
use Rattle.oe_file_rows.proofs.StartFacts.{column_begins}
use Rattle.oe_file_rows.proofs.fields.Fields.take_front.Goals as goal

pub returns-clause-taken : goal.returns-clause-taken
returns-clause-taken g c =
    column_begins g.T.ColumnValue.column_form (g.T.ColumnValue.value c.in-Some.value) c.args.self.now
    c.self.inside.column c.in_ok-rest.rest.now (option_copied c.in-Some.left)
    (held c.args.self.now c.self.inside.column c.self.inside.rest c.in_ok-rest.rest c.self.view_is c.in_ok-rest.was)
    c.in-Some.ensures
