use Rattle.std.specs.Prelude.{◌&&◌}
use Rattle.oe_rows.specs.Key.{order_line_cmp}
use Rattle.oe_table.specs.Table.{rows_of}
use Rattle.oe_model.specs.Keys.{district_of_order, order_of_line}
use Rattle.oe_model.specs.Population.{counts_to, line_of, lines_of}
use Rattle.oe_population.specs.Fill.{Fills}
use Rattle.oe_population.specs.Group.{is_district}
use Rattle.oe_population.proofs.fills.fill_lines.Given as goal

abbrev pub invariant-loop-before : goal.invariant-loop-before
invariant-loop-before l =
    Fills (λ k. (is_district l.fn.district (district_of_order (order_of_line k)) && counts_to l.before (k.order)) &&
    counts_to (lines_of k.order) k.number) (line_of l.scale) (rows_of order_line_cmp l.fn.table) (rows_of order_line_cmp
    l.table)
