use Rattle.oe_store.specs.Places.{rows}
use Rattle.oe_model.proofs.PopulationFacts.{population_is_one}
use Rattle.oe_file_serial.proofs.WorkFacts.{populated_so}
use Rattle.oe_file_serial.proofs.verdicts.opened.Goals as goal

pub opened_on-requires : goal.opened_on-requires
opened_on-requires g c = population_is_one.is_population c.args.scale (rows c.in-Ok.tables) c.requires c.in-Ok.ensures

pub returns-in-Ok : goal.returns-in-Ok
returns-in-Ok g c = populated_so g.M.Machine.world c.args.scale (rows c.in-Ok.tables) c.in-Ok.ensures
    c.opened_on.result c.opened_on.ensures
