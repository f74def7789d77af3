use Rattle.std.specs.Prelude.{◌&&◌}
use Rattle.std.specs.FinMap.{empty}
use Rattle.oe_rows.specs.Key.{order_line_cmp}
use Rattle.oe_table.specs.Table.{rows_of}
use Rattle.oe_model.specs.Keys.{district_of_order, order_of_line}
use Rattle.oe_model.specs.Population.{counts_to, line_of, lines_of}
use Rattle.oe_population.specs.Fill.{Fills}
use Rattle.oe_population.specs.Group.{is_any_district, district_count}
use Rattle.oe_population.proofs.fills.order_lines.Given as goal

abbrev pub invariant-loop-ordinal : goal.invariant-loop-ordinal
invariant-loop-ordinal l =
    Fills (λ k. ((counts_to l.ordinal (district_count (district_of_order (order_of_line k))) && is_any_district
    (district_of_order (order_of_line k))) && counts_to l.scale.customers k.order) && counts_to (lines_of k.order)
    k.number) (line_of l.scale) empty (rows_of order_line_cmp l.table)
