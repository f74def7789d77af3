use Rattle.oe_theory.specs.Theorems.{IsKeptByChanges}
use Rattle.oe_theory.proofs.Theorems.{holds_of_tables, holds_while_undone, holds_while_rewound}
use Rattle.oe_theory.proofs.InTurn.{each_goes_back}
use Rattle.oe_theory.proofs.StoreClosing.{each_goes_back_here}
use Rattle.oe_model.specs.Meets.{Meets}
use Rattle.oe_model.specs.System.{system}
use Rattle.oe_model.proofs.ChangeFacts.{accepted_meets}
use Rattle.oe_model.proofs.SystemLaws.{laws}
use Rattle.oe_model.proofs.schema_always_holds.Goals as goal

kept : IsKeptByChanges system Meets
kept = record { between = λ f r g. g.meets; kept = accepted_meets }

pub returns : goal.returns
returns c = record {
  of_tables = holds_of_tables system laws Meets kept;
  while_undone = holds_while_undone system laws Meets kept;
  while_rewound = holds_while_rewound system laws Meets kept;
  in_turn = each_goes_back system laws Meets kept;
  in_turn_here = each_goes_back_here system laws Meets kept;
}
