use Rattle.oe_theory.proofs.RecordKeys.{row_without_record}
use Rattle.oe_theory_example.specs.Bank.{bank}
use Rattle.oe_theory_example.proofs.Laws.{bank_laws}
use Rattle.oe_theory_example.proofs.row_without_record.Goals as goal

pub returns : goal.returns
returns c = row_without_record bank bank_laws
