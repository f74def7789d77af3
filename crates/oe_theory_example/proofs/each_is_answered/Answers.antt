use Rattle.oe_theory.proofs.Theorems.{each_is_answered}
use Rattle.oe_theory_example.specs.Bank.{bank}
use Rattle.oe_theory_example.proofs.Laws.{bank_laws}
use Rattle.oe_theory_example.proofs.each_is_answered.Goals as goal

pub returns : goal.returns
returns c = each_is_answered bank bank_laws
