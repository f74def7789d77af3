use Rattle.oe_theory.proofs.Theorems.{versions_are_good}
use Rattle.oe_theory_example.specs.Bank.{bank}
use Rattle.oe_theory_example.proofs.Laws.{bank_laws}
use Rattle.oe_theory_example.proofs.versions_are_good.Goals as goal

pub returns : goal.returns
returns c = versions_are_good bank bank_laws
