use Rattle.oe_consistency.proofs.PopulationMore.{population_has_more}
use Rattle.oe_consistency.proofs.population_has_more.Goals as goal

pub returns : goal.returns
returns c = population_has_more
