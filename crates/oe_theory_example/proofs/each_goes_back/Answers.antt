use Rattle.oe_theory.specs.Theorems.{IsKeptByChanges}
use Rattle.oe_theory.proofs.InTurn.{each_goes_back}
use Rattle.oe_theory_example.specs.Bank.{bank}
use Rattle.oe_theory_example.proofs.Laws.{bank_laws}
use Rattle.oe_theory_example.proofs.each_goes_back.Goals as goal

kept : IsKeptByChanges bank (λ r. Unit {0})
kept = record { between = λ f r g. tt; kept = λ c r a h. tt }

pub returns : goal.returns
returns c = each_goes_back bank bank_laws (λ r. Unit {0}) kept
