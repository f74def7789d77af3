use Rattle.oe_theory.proofs.Theorems.{answers_are_determined}
use Rattle.oe_theory_example.specs.Bank.{bank}
use Rattle.oe_theory_example.proofs.Laws.{bank_laws}
use Rattle.oe_theory_example.proofs.answers_are_determined.Goals as goal

pub returns : goal.returns
returns c = answers_are_determined bank bank_laws
