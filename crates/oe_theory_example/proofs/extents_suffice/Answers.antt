use Rattle.oe_theory.proofs.Theorems.{extents_suffice}
use Rattle.oe_theory_example.specs.Bank.{bank}
use Rattle.oe_theory_example.proofs.Laws.{bank_laws}
use Rattle.oe_theory_example.proofs.extents_suffice.Goals as goal

pub returns : goal.returns
returns c = extents_suffice bank bank_laws
