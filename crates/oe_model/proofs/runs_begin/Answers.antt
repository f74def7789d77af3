use Rattle.oe_theory.proofs.Theorems.{opening_is_reached, run_is_reached}
use Rattle.oe_model.specs.System.{system}
use Rattle.oe_model.proofs.SystemLaws.{laws, population_is_good}
use Rattle.oe_model.proofs.runs_begin.Goals as goal

pub returns : goal.returns
returns c = record {
  population_is_good = population_is_good;
  opening_is_reached = opening_is_reached system laws;
  run_is_reached = run_is_reached system laws;
}
