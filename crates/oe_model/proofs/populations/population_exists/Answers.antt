use Rattle.oe_model.proofs.PopulationTables.{population_exists}
use Rattle.oe_model.proofs.populations.population_exists.Goals as goal

pub returns : goal.returns
returns c = population_exists
