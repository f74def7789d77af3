use Rattle.oe_store.specs.Places.{rows}
use Rattle.oe_model.proofs.PopulationFacts.{population_is_one}
use Rattle.oe_load.specs.declared.origins.Origin.TheVariants as origin
use Rattle.oe_load.proofs.LoadFacts.{script_opened}
use Rattle.oe_load.proofs.loads.populated.Goals as goal

pub open-requires : goal.open-requires
open-requires g c = population_is_one.is_population c.args.plan.now.numbers.scale (rows c.in-Ok.tables)
    c.scale_holds.ensures c.in-Ok.ensures

pub returns-in-Ok : goal.returns-in-Ok
returns-in-Ok g c = script_opened g.M.Machine.world c.args.plan.now origin.Population (rows c.in-Ok.tables)
    c.in-Ok.ensures
    c.open.result c.open.ensures
