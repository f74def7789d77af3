use Rattle.std.specs.Prelude.{◌&&◌}
use Rattle.std.specs.FinMap.{empty}
use Rattle.oe_rows.specs.Key.{stock_cmp}
use Rattle.oe_table.specs.Table.{rows_of}
use Rattle.oe_model.specs.Population.{counts_to, stock_of}
use Rattle.oe_population.specs.Fill.{Fills}
use Rattle.oe_population.proofs.fills.stocks.Given as goal

abbrev pub invariant-loop-before : goal.invariant-loop-before
invariant-loop-before l = Fills (λ k. counts_to l.before (k.warehouse) && counts_to l.scale.items k.item)
    (λ k. stock_of k.warehouse k.item) empty (rows_of stock_cmp l.table)
