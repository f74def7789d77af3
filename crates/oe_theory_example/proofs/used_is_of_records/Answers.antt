use Rattle.oe_theory.proofs.Theorems.{used_is_of_records}
use Rattle.oe_theory_example.specs.Bank.{bank}
use Rattle.oe_theory_example.proofs.Laws.{bank_laws}
use Rattle.oe_theory_example.proofs.used_is_of_records.Goals as goal

pub returns : goal.returns
returns c = used_is_of_records bank bank_laws
