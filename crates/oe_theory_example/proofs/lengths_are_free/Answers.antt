use Rattle.oe_theory.proofs.Lengths.{lengths_are_free}
use Rattle.oe_theory_example.specs.Bank.{bank}
use Rattle.oe_theory_example.proofs.Laws.{bank_laws}
use Rattle.oe_theory_example.proofs.lengths_are_free.Goals as goal

pub returns : goal.returns
returns c = lengths_are_free bank bank_laws
