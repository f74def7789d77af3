use Rattle.std.proofs.Common.{rules}
use Rattle.oe_hall_tests.proofs.shows.populated.Goals as goal

pub returns : goal.returns
returns g c =
    let r = c.population_is_one.ensures in
    r.is_population _ _ (record { warehouses = search rules; customers = search rules; items = search rules })
    c.in-Ok.ensures
