use Rattle.oe_theory.proofs.Theorems.{abort_has_no_effect}
use Rattle.oe_theory_example.specs.Bank.{bank}
use Rattle.oe_theory_example.proofs.Laws.{bank_laws}
use Rattle.oe_theory_example.proofs.abort_has_no_effect.Goals as goal

pub returns : goal.returns
returns c = abort_has_no_effect bank bank_laws
