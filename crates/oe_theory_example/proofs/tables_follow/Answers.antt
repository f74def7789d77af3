use Rattle.oe_theory.proofs.Theorems.{tables_follow}
use Rattle.oe_theory_example.specs.Bank.{bank}
use Rattle.oe_theory_example.proofs.Laws.{bank_laws}
use Rattle.oe_theory_example.proofs.tables_follow.Goals as goal

pub returns : goal.returns
returns c = tables_follow bank bank_laws
