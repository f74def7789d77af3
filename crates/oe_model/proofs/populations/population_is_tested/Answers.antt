use Rattle.oe_model.proofs.PopulationTestFacts.{population_is_tested}
use Rattle.oe_model.proofs.populations.population_is_tested.Goals as goal

pub returns : goal.returns
returns c = population_is_tested
