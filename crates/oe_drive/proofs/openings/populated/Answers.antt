use Rattle.std.proofs.Common.{◌≤◌, rules}
use Rattle.oe_store.specs.Places.{rows}
use Rattle.oe_drive.proofs.openings.populated.Goals as goal

pub returns : goal.returns
returns c =
    let scale = c.args.numbers.now.scale in
    let warehouses : (1 ≤ scale.warehouses) × (scale.warehouses ≤ 16) = search rules in
    let customers : (1 ≤ scale.customers) × (scale.customers ≤ 3_000) = search rules in
    let items : (1 ≤ scale.items) × (scale.items ≤ 100_000) = search rules in (
      c.in-Ok.ensures,
      c.population_is_one.ensures.is_population scale (rows c.in-Ok.tables)
          (record { warehouses = warehouses; customers = customers; items = items }) c.in-Ok.ensures,
    )
