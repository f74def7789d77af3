use Rattle.oe_theory.proofs.Theorems.{abort_is_its_own}
use Rattle.oe_theory_example.specs.Bank.{bank}
use Rattle.oe_theory_example.proofs.Laws.{bank_laws}
use Rattle.oe_theory_example.proofs.abort_is_its_own.Goals as goal

pub returns : goal.returns
returns c = abort_is_its_own bank bank_laws
