use Rattle.std.proofs.Common.{◌∙◌}
use Rattle.oe_line_numbers.proofs.numbers.LineNumbers.settle.Goals as goal

pub returns-clause-stays : goal.returns-clause-stays
returns-clause-stays c facts kept = record { by_block = λ k. c.settle.ensures.totals k ∙ kept.by_block k }
