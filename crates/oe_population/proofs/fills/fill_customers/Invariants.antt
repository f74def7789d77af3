use Rattle.std.specs.Prelude.{◌&&◌}
use Rattle.oe_rows.specs.Key.{customer_cmp}
use Rattle.oe_table.specs.Table.{rows_of}
use Rattle.oe_model.specs.Keys.{district_of_customer}
use Rattle.oe_model.specs.Population.{counts_to, customer_of}
use Rattle.oe_population.specs.Fill.{Fills}
use Rattle.oe_population.specs.Group.{is_district}
use Rattle.oe_population.proofs.fills.fill_customers.Given as goal

abbrev pub invariant-loop-before : goal.invariant-loop-before
invariant-loop-before l =
    Fills (λ k. is_district l.fn.district (district_of_customer k) && counts_to l.before (k.customer))
    (λ k. customer_of k.customer) (rows_of customer_cmp l.fn.table.places) (rows_of customer_cmp l.table.places)
