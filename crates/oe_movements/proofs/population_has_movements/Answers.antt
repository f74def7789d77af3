use Rattle.oe_movements.proofs.PopulationMoves.{population_has_movements}
use Rattle.oe_movements.proofs.population_has_movements.Goals as goal

pub returns : goal.returns
returns c = population_has_movements
