use Rattle.std.specs.FinMap.{empty}
use Rattle.oe_rows.specs.Key.{item_cmp}
use Rattle.oe_table.specs.Table.{rows_of}
use Rattle.oe_model.specs.Population.{counts_to, item_of}
use Rattle.oe_population.specs.Fill.{Fills}
use Rattle.oe_population.proofs.fills.items.Given as goal

abbrev pub invariant-loop-before : goal.invariant-loop-before
invariant-loop-before l = Fills (λ k. counts_to l.before (k.item)) (λ k. item_of k.item) empty
    (rows_of item_cmp l.table)
