use Rattle.oe_theory.proofs.Theorems.{tables_when_quiet}
use Rattle.oe_theory_example.specs.Bank.{bank}
use Rattle.oe_theory_example.proofs.Laws.{bank_laws}
use Rattle.oe_theory_example.proofs.quiet_tables.Goals as goal

pub returns : goal.returns
returns c = tables_when_quiet bank bank_laws
