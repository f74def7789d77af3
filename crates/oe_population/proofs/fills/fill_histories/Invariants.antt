use Rattle.std.specs.Prelude.{◌&&◌}
use Rattle.std.specs.Ordering.{eq_by_cmp}
use Rattle.oe_rows.specs.Key.{history_cmp}
use Rattle.oe_table.specs.Table.{rows_of}
use Rattle.oe_model.specs.Keys.{district_of_customer}
use Rattle.oe_model.specs.Population.{counts_to, history_of, history_key, counted_customer}
use Rattle.oe_population.specs.Fill.{Fills}
use Rattle.oe_population.specs.Group.{is_district}
use Rattle.oe_population.proofs.fills.fill_histories.Given as goal

abbrev pub invariant-loop-before : goal.invariant-loop-before
invariant-loop-before l =
    Fills (λ k. (is_district l.fn.district (district_of_customer (counted_customer l.scale k.number)) && counts_to
    l.before (counted_customer l.scale k.number).customer) && eq_by_cmp history_cmp k (history_key l.scale
    (counted_customer l.scale k.number))) (λ k. history_of (counted_customer l.scale k.number)) (rows_of history_cmp
    l.fn.table) (rows_of history_cmp l.table)
