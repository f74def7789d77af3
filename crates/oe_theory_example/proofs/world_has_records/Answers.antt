use Rattle.oe_theory.proofs.Theorems.{world_has_records}
use Rattle.oe_theory_example.specs.Bank.{bank}
use Rattle.oe_theory_example.proofs.Laws.{bank_laws}
use Rattle.oe_theory_example.proofs.world_has_records.Goals as goal

pub returns : goal.returns
returns c = world_has_records bank bank_laws
