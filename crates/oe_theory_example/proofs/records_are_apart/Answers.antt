use Rattle.oe_theory.proofs.RecordKeys.{records_are_apart}
use Rattle.oe_theory_example.specs.Bank.{bank}
use Rattle.oe_theory_example.proofs.Laws.{bank_laws}
use Rattle.oe_theory_example.proofs.records_are_apart.Goals as goal

pub returns : goal.returns
returns c = records_are_apart bank bank_laws
