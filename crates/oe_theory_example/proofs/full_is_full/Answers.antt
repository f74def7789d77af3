use Rattle.oe_theory.proofs.Theorems.{full_is_full}
use Rattle.oe_theory_example.specs.Bank.{bank}
use Rattle.oe_theory_example.proofs.Laws.{bank_laws}
use Rattle.oe_theory_example.proofs.full_is_full.Goals as goal

pub returns : goal.returns
returns c = full_is_full bank bank_laws
