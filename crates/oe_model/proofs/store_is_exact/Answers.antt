use Rattle.oe_theory.proofs.StoreSteps.{world_is_stored, store_follows, opening_stands}
use Rattle.oe_theory.proofs.StoreTheorems.{steps_of_the_store}
use Rattle.oe_theory.proofs.StoreClosing.{facts_of_the_store}
use Rattle.oe_model.specs.System.{system}
use Rattle.oe_model.proofs.SystemLaws.{laws}
use Rattle.oe_model.proofs.store_is_exact.Goals as goal

pub returns : goal.returns
returns c = record {
  world_is_stored = world_is_stored system laws;
  store_follows = store_follows system laws;
  opening_stands = opening_stands system laws;
  steps = steps_of_the_store system laws;
  facts = facts_of_the_store system laws;
}
