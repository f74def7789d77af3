use Rattle.oe_theory.proofs.Theorems.{history_is_serial}
use Rattle.oe_theory_example.specs.Bank.{bank}
use Rattle.oe_theory_example.proofs.Laws.{bank_laws}
use Rattle.oe_theory_example.proofs.history_is_serial.Goals as goal

pub returns : goal.returns
returns c = history_is_serial bank bank_laws
