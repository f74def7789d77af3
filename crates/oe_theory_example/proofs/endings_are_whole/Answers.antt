use Rattle.oe_theory.proofs.StepTheorems.{endings_are_whole}
use Rattle.oe_theory_example.specs.Bank.{bank}
use Rattle.oe_theory_example.proofs.Laws.{bank_laws}
use Rattle.oe_theory_example.proofs.endings_are_whole.Goals as goal

pub returns : goal.returns
returns c = endings_are_whole bank bank_laws
