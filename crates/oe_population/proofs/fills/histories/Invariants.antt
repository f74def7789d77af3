use Rattle.std.specs.Prelude.{◌&&◌}
use Rattle.std.specs.Ordering.{eq_by_cmp}
use Rattle.std.specs.FinMap.{empty}
use Rattle.oe_rows.specs.Key.{history_cmp}
use Rattle.oe_table.specs.Table.{rows_of}
use Rattle.oe_model.specs.Keys.{district_of_customer}
use Rattle.oe_model.specs.Population.{counts_to, history_of, counted_customer, history_key}
use Rattle.oe_population.specs.Fill.{Fills}
use Rattle.oe_population.specs.Group.{is_any_district, district_count}
use Rattle.oe_population.proofs.fills.histories.Given as goal

abbrev pub invariant-loop-ordinal : goal.invariant-loop-ordinal
invariant-loop-ordinal l =
    Fills (λ k. ((counts_to l.ordinal (district_count (district_of_customer (counted_customer l.scale k.number))) &&
    is_any_district (district_of_customer (counted_customer l.scale k.number))) && counts_to l.scale.customers
    (counted_customer l.scale k.number).customer) && eq_by_cmp history_cmp k (history_key l.scale
    (counted_customer l.scale k.number))) (λ k. history_of (counted_customer l.scale k.number)) empty (rows_of
    history_cmp l.table)
