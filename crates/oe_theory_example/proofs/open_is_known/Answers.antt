use Rattle.oe_theory.proofs.Theorems.{open_is_known}
use Rattle.oe_theory_example.specs.Bank.{bank}
use Rattle.oe_theory_example.proofs.Laws.{bank_laws}
use Rattle.oe_theory_example.proofs.open_is_known.Goals as goal

pub returns : goal.returns
returns c = open_is_known bank bank_laws
