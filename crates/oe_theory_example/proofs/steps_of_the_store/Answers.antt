use Rattle.oe_theory.proofs.StoreTheorems.{steps_of_the_store}
use Rattle.oe_theory_example.specs.Bank.{bank}
use Rattle.oe_theory_example.proofs.Laws.{bank_laws}
use Rattle.oe_theory_example.proofs.steps_of_the_store.Goals as goal

pub returns : goal.returns
returns c = steps_of_the_store bank bank_laws
