use Rattle.oe_theory.proofs.Theorems.{nothing_is_recorded}
use Rattle.oe_theory_example.specs.Bank.{bank}
use Rattle.oe_theory_example.proofs.Laws.{bank_laws}
use Rattle.oe_theory_example.proofs.nothing_is_recorded.Goals as goal

pub returns : goal.returns
returns c = nothing_is_recorded bank bank_laws
