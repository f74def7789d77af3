use Rattle.oe_theory.proofs.StepTheorems.{steps_are_counted}
use Rattle.oe_theory_example.specs.Bank.{bank}
use Rattle.oe_theory_example.proofs.Laws.{bank_laws}
use Rattle.oe_theory_example.proofs.steps_are_counted.Goals as goal

pub returns : goal.returns
returns c = steps_are_counted bank bank_laws
