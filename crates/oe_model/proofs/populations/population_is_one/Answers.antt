use Rattle.oe_model.proofs.PopulationFacts.{population_is_one}
use Rattle.oe_model.proofs.populations.population_is_one.Goals as goal

pub returns : goal.returns
returns c = population_is_one
