use Rattle.oe_theory.proofs.Theorems.{tests_hold_from_base}
use Rattle.oe_theory_example.specs.Bank.{bank}
use Rattle.oe_theory_example.proofs.Laws.{bank_laws}
use Rattle.oe_theory_example.proofs.tests_hold_from_base.Goals as goal

pub returns : goal.returns
returns c = tests_hold_from_base bank bank_laws
