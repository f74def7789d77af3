use Rattle.std.specs.Prelude.{◌&&◌, not}
use Rattle.std.specs.FinMap.{empty}
use Rattle.oe_rows.specs.Key.{new_order_cmp}
use Rattle.oe_table.specs.Table.{rows_of}
use Rattle.oe_model.specs.Keys.{district_of_new_order}
use Rattle.oe_model.specs.Population.{counts_to, is_delivered}
use Rattle.oe_population.specs.Fill.{Fills}
use Rattle.oe_population.specs.Group.{is_any_district, district_count, no_columns}
use Rattle.oe_population.proofs.fills.new_orders.Given as goal

abbrev pub invariant-loop-ordinal : goal.invariant-loop-ordinal
invariant-loop-ordinal l =
    Fills (λ k. ((counts_to l.ordinal (district_count (district_of_new_order k)) && is_any_district
    (district_of_new_order k)) && counts_to l.scale.customers k.order) && not (is_delivered l.scale k.order)) (λ
    k. no_columns) empty (rows_of new_order_cmp l.table)
