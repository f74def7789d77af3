use Rattle.oe_theory.proofs.StoreClosing.{facts_of_the_store}
use Rattle.oe_theory_example.specs.Bank.{bank}
use Rattle.oe_theory_example.proofs.Laws.{bank_laws}
use Rattle.oe_theory_example.proofs.facts_of_the_store.Goals as goal

pub returns : goal.returns
returns c = facts_of_the_store bank bank_laws
