use Rattle.oe_theory.proofs.Theorems.{opening_is_reached}
use Rattle.oe_theory_example.specs.Bank.{bank}
use Rattle.oe_theory_example.proofs.Laws.{bank_laws}
use Rattle.oe_theory_example.proofs.opening_is_reached.Goals as goal

pub returns : goal.returns
returns c = opening_is_reached bank bank_laws
