use Rattle.oe_theory.proofs.Theorems.{holds_of_versions}
use Rattle.oe_theory_example.specs.Bank.{bank}
use Rattle.oe_theory_example.specs.Conditions.{HasMoney}
use Rattle.oe_theory_example.proofs.Laws.{bank_laws}
use Rattle.oe_theory_example.proofs.Money.{keeps_money}
use Rattle.oe_theory_example.proofs.money_is_kept.Goals as goal

pub returns : goal.returns
returns c money = holds_of_versions bank bank_laws (HasMoney money) (keeps_money money)
