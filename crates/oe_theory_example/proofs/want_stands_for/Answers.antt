use Rattle.oe_theory.proofs.Theorems.{want_means}
use Rattle.oe_theory_example.specs.Bank.{bank}
use Rattle.oe_theory_example.proofs.Laws.{bank_laws}
use Rattle.oe_theory_example.proofs.want_stands_for.Goals as goal

pub returns : goal.returns
returns c = want_means bank bank_laws
