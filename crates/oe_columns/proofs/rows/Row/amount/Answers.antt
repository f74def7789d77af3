use Rattle.std.proofs.Common.{None, arith}
use Rattle.std.proofs.lemmas.Int.{to_z-of_z}
use Rattle.oe_columns.proofs.RowFacts.{amount_column, amount_some}
use Rattle.oe_columns.proofs.rows.Row.amount.Goals as goal

pub returns-in-Some-clause-value : goal.returns-in-Some-clause-value
returns-in-Some-clause-value c =
    let e = amount_some c.args.at c.args.self.now c.in-Some.z c.in-Some.ensures.value in
    grind (arith, to_z-of_z, e)

pub returns-in-None-clause-value : goal.returns-in-None-clause-value
returns-in-None-clause-value c = amount_column c.args.at c.args.self.now None c.in-None.ensures.value
