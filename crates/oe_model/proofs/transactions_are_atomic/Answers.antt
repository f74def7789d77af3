use Rattle.oe_theory.proofs.Theorems.{rollback_leaves_no_trace, commit_is_whole, abort_has_no_effect, abort_is_its_own}
use Rattle.oe_theory.proofs.Theorems.{open_is_known, changes_are_accepted}
use Rattle.oe_theory.proofs.StepTheorems.{endings_are_whole}
use Rattle.oe_model.specs.System.{system}
use Rattle.oe_model.proofs.SystemLaws.{laws}
use Rattle.oe_model.proofs.transactions_are_atomic.Goals as goal

pub returns : goal.returns
returns c = record {
  rollback_leaves_no_trace = rollback_leaves_no_trace system laws;
  commit_is_whole = commit_is_whole system laws;
  abort_has_no_effect = abort_has_no_effect system laws;
  abort_is_its_own = abort_is_its_own system laws;
  open_is_known = open_is_known system laws;
  changes_are_accepted = changes_are_accepted system laws;
  endings_are_whole = endings_are_whole system laws;
}
