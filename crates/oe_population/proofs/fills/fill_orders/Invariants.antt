use Rattle.std.specs.Prelude.{◌&&◌}
use Rattle.oe_rows.specs.Key.{order_cmp}
use Rattle.oe_table.specs.Table.{rows_of}
use Rattle.oe_model.specs.Keys.{district_of_order}
use Rattle.oe_model.specs.Population.{counts_to, order_of}
use Rattle.oe_population.specs.Fill.{Fills}
use Rattle.oe_population.specs.Group.{is_district}
use Rattle.oe_population.proofs.fills.fill_orders.Given as goal

abbrev pub invariant-loop-before : goal.invariant-loop-before
invariant-loop-before l = Fills (λ k. is_district l.fn.district (district_of_order k) && counts_to l.before (k.order))
    (λ k. order_of l.scale k.order) (rows_of order_cmp l.fn.table.places) (rows_of order_cmp l.table.places)
