use Rattle.oe_theory.proofs.StoreSteps.{store_follows}
use Rattle.oe_theory_example.specs.Bank.{bank}
use Rattle.oe_theory_example.proofs.Laws.{bank_laws}
use Rattle.oe_theory_example.proofs.store_follows.Goals as goal

pub returns : goal.returns
returns c = store_follows bank bank_laws
