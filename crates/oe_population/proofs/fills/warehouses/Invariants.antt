use Rattle.std.specs.FinMap.{empty}
use Rattle.oe_rows.specs.Key.{warehouse_cmp}
use Rattle.oe_table.specs.Table.{rows_of}
use Rattle.oe_model.specs.Population.{counts_to, warehouse_of}
use Rattle.oe_population.specs.Fill.{Fills}
use Rattle.oe_population.proofs.fills.warehouses.Given as goal

abbrev pub invariant-loop-before : goal.invariant-loop-before
invariant-loop-before l = Fills (λ k. counts_to l.before (k.warehouse)) (λ k. warehouse_of l.scale k.warehouse) empty
    (rows_of warehouse_cmp l.table)
