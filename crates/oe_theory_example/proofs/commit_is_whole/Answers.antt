use Rattle.oe_theory.proofs.Theorems.{commit_is_whole}
use Rattle.oe_theory_example.specs.Bank.{bank}
use Rattle.oe_theory_example.proofs.Laws.{bank_laws}
use Rattle.oe_theory_example.proofs.commit_is_whole.Goals as goal

pub returns : goal.returns
returns c = commit_is_whole bank bank_laws
