use Rattle.oe_theory.proofs.Theorems.{rewind_restores}
use Rattle.oe_theory_example.specs.Bank.{bank}
use Rattle.oe_theory_example.proofs.Laws.{bank_laws}
use Rattle.oe_theory_example.proofs.rewind_restores.Goals as goal

pub returns : goal.returns
returns c = rewind_restores bank bank_laws
