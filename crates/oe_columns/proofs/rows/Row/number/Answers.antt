use Rattle.std.proofs.Common.{◌∙◌}
use Rattle.oe_columns.proofs.RowFacts.{number_column}
use Rattle.oe_columns.proofs.rows.Row.number.Goals as goal

pub returns-clause-value : goal.returns-clause-value
returns-clause-value c =
    c.ranged.ensures.value
    ∙ number_column c.args.low c.args.high c.args.at c.args.self.now c.whole-n.result c.whole-n.ensures.value
