use Rattle.std.specs.Prelude.{◌&&◌}
use Rattle.std.specs.FinMap.{empty}
use Rattle.oe_rows.specs.Key.{customer_cmp}
use Rattle.oe_table.specs.Table.{rows_of}
use Rattle.oe_model.specs.Keys.{district_of_customer}
use Rattle.oe_model.specs.Population.{counts_to, customer_of}
use Rattle.oe_population.specs.Fill.{Fills}
use Rattle.oe_population.specs.Group.{is_any_district, district_count}
use Rattle.oe_population.proofs.fills.customers.Given as goal

abbrev pub invariant-loop-ordinal : goal.invariant-loop-ordinal
invariant-loop-ordinal l =
    Fills (λ k. (counts_to l.ordinal (district_count (district_of_customer k)) && is_any_district
    (district_of_customer k)) && counts_to l.scale.customers k.customer) (λ k. customer_of k.customer) empty (rows_of
    customer_cmp l.table.places)
