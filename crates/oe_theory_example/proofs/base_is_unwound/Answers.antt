use Rattle.oe_theory.proofs.Theorems.{base_is_unwound}
use Rattle.oe_theory_example.specs.Bank.{bank}
use Rattle.oe_theory_example.proofs.Laws.{bank_laws}
use Rattle.oe_theory_example.proofs.base_is_unwound.Goals as goal

pub returns : goal.returns
returns c = base_is_unwound bank bank_laws
