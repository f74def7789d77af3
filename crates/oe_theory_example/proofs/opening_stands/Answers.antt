use Rattle.oe_theory.proofs.StoreSteps.{opening_stands}
use Rattle.oe_theory_example.specs.Bank.{bank}
use Rattle.oe_theory_example.proofs.Laws.{bank_laws}
use Rattle.oe_theory_example.proofs.opening_stands.Goals as goal

pub returns : goal.returns
returns c = opening_stands bank bank_laws
