use Rattle.oe_theory.proofs.Theorems.{undo_forgets}
use Rattle.oe_theory_example.specs.Bank.{bank}
use Rattle.oe_theory_example.proofs.Laws.{bank_laws}
use Rattle.oe_theory_example.proofs.undo_forgets.Goals as goal

pub returns : goal.returns
returns c = undo_forgets bank bank_laws
