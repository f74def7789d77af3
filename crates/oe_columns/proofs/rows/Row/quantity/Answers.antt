use Rattle.std.proofs.Common.{ap, ◌∙◌, arith, Ok}
use Rattle.std.proofs.lemmas.Int.{ints}
use Rattle.oe_columns.specs.Values.{Quantity}
use Rattle.oe_columns.proofs.RowFacts.{quantity_column}
use Rattle.oe_columns.proofs.rows.Row.quantity.Goals as goal

pub returns-then-n-le1000000000000000-clause-value : goal.returns-then-n-le1000000000000000-clause-value
returns-then-n-le1000000000000000-clause-value c =
    ap (λ z. Ok (Quantity z)) (omega (arith, ints, c.if-n-le1000000000000000.true))
    ∙ quantity_column c.args.at c.in-Some.n c.args.self.now c.in-Some.ensures c.if-n-le1000000000000000.true
