use Rattle.oe_theory.proofs.Theorems.{rollback_leaves_no_trace}
use Rattle.oe_theory_example.specs.Bank.{bank}
use Rattle.oe_theory_example.proofs.Laws.{bank_laws}
use Rattle.oe_theory_example.proofs.rollback_leaves_no_trace.Goals as goal

pub returns : goal.returns
returns c = rollback_leaves_no_trace bank bank_laws
