use Rattle.oe_theory.proofs.StoreSteps.{world_is_stored}
use Rattle.oe_theory_example.specs.Bank.{bank}
use Rattle.oe_theory_example.proofs.Laws.{bank_laws}
use Rattle.oe_theory_example.proofs.world_is_stored.Goals as goal

pub returns : goal.returns
returns c = world_is_stored bank bank_laws
