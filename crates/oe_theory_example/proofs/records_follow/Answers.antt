use Rattle.oe_theory.proofs.Theorems.{records_follow}
use Rattle.oe_theory_example.specs.Bank.{bank}
use Rattle.oe_theory_example.proofs.Laws.{bank_laws}
use Rattle.oe_theory_example.proofs.records_follow.Goals as goal

pub returns : goal.returns
returns c = records_follow bank bank_laws
