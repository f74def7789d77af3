use Rattle.oe_theory.proofs.Theorems.{purge_leaves_later}
use Rattle.oe_theory_example.specs.Bank.{bank}
use Rattle.oe_theory_example.proofs.Laws.{bank_laws}
use Rattle.oe_theory_example.proofs.purge_leaves_later.Goals as goal

pub returns : goal.returns
returns c = purge_leaves_later bank bank_laws
