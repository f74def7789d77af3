use Rattle.oe_theory.proofs.Theorems.{scripts_are_answered}
use Rattle.oe_theory_example.specs.Bank.{bank}
use Rattle.oe_theory_example.proofs.Laws.{bank_laws}
use Rattle.oe_theory_example.proofs.scripts_are_answered.Goals as goal

pub returns : goal.returns
returns c = scripts_are_answered bank bank_laws
