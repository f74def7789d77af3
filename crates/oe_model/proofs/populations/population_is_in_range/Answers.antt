use Rattle.oe_model.proofs.PopulationRangeFacts.{population_is_in_range}
use Rattle.oe_model.proofs.populations.population_is_in_range.Goals as goal

pub returns : goal.returns
returns c = population_is_in_range
