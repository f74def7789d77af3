use Rattle.oe_theory.proofs.Theorems.{changes_are_accepted}
use Rattle.oe_theory_example.specs.Bank.{bank}
use Rattle.oe_theory_example.proofs.Laws.{bank_laws}
use Rattle.oe_theory_example.proofs.changes_are_accepted.Goals as goal

pub returns : goal.returns
returns c = changes_are_accepted bank bank_laws
