use Rattle.oe_formulas.proofs.LawFacts.{line_has_columns}
use Rattle.oe_formulas.proofs.laws.line_has_columns.Goals as goal

pub returns : goal.returns
returns c = line_has_columns
