use Rattle.std.specs.Prelude.{◌&&◌, not}
use Rattle.oe_rows.specs.Key.{new_order_cmp}
use Rattle.oe_table.specs.Table.{rows_of}
use Rattle.oe_model.specs.Keys.{district_of_new_order}
use Rattle.oe_model.specs.Population.{counts_to, is_delivered}
use Rattle.oe_population.specs.Fill.{Fills}
use Rattle.oe_population.specs.Group.{is_district, no_columns}
use Rattle.oe_population.proofs.fills.fill_new_orders.Given as goal

abbrev pub invariant-loop-before : goal.invariant-loop-before
invariant-loop-before l =
    Fills (λ k. (is_district l.fn.district (district_of_new_order k) && counts_to l.before (k.order)) && not
    (is_delivered l.scale k.order)) (λ k. no_columns) (rows_of new_order_cmp l.fn.table) (rows_of new_order_cmp l.table)
