use Rattle.std.specs.Prelude.{◌&&◌}
use Rattle.std.specs.FinMap.{empty}
use Rattle.oe_rows.specs.Key.{order_cmp}
use Rattle.oe_table.specs.Table.{rows_of}
use Rattle.oe_model.specs.Keys.{district_of_order}
use Rattle.oe_model.specs.Population.{counts_to, order_of}
use Rattle.oe_population.specs.Fill.{Fills}
use Rattle.oe_population.specs.Group.{is_any_district, district_count}
use Rattle.oe_population.proofs.fills.orders.Given as goal

abbrev pub invariant-loop-ordinal : goal.invariant-loop-ordinal
invariant-loop-ordinal l =
    Fills (λ k. (counts_to l.ordinal (district_count (district_of_order k)) && is_any_district (district_of_order k)) &&
    counts_to l.scale.customers k.order) (λ k. order_of l.scale k.order) empty (rows_of order_cmp l.table.places)
