-- Each text but the last has a fixed width.
use Rattle.std.proofs.Common.{ℕ, ap, length, arith}
use Rattle.oe_layout.proofs.LengthFacts.{stock_long}
use Rattle.oe_layout.proofs.loans.stock_length.Goals as goal

pub returns-clause-image : goal.returns-clause-image
returns-clause-image c =
    let long = (stock_long c.args.row.now c.figures-figures.ensures.ranges).is in
    let same = ap (length {A = ℕ}) c.as_str.ensures.value in
    omega (arith, long, same)
