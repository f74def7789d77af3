use Rattle.oe_theory.proofs.Theorems.{undo_goes_back}
use Rattle.oe_theory_example.specs.Bank.{bank}
use Rattle.oe_theory_example.proofs.Laws.{bank_laws}
use Rattle.oe_theory_example.proofs.undo_goes_back.Goals as goal

pub returns : goal.returns
returns c = undo_goes_back bank bank_laws
