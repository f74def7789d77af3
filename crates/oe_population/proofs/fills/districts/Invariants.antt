use Rattle.std.specs.Prelude.{◌&&◌}
use Rattle.std.specs.FinMap.{empty}
use Rattle.oe_rows.specs.Key.{district_cmp}
use Rattle.oe_table.specs.Table.{rows_of}
use Rattle.oe_model.specs.Population.{counts_to, district_of}
use Rattle.oe_population.specs.Fill.{Fills}
use Rattle.oe_population.specs.Group.{is_any_district, district_count}
use Rattle.oe_population.proofs.fills.districts.Given as goal

abbrev pub invariant-loop-ordinal : goal.invariant-loop-ordinal
invariant-loop-ordinal l = Fills (λ k. counts_to l.ordinal (district_count k) && is_any_district k)
    (λ k. district_of l.scale k.district) empty (rows_of district_cmp l.table)
