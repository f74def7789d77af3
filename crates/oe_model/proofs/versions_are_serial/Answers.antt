use Rattle.oe_theory.proofs.Theorems.{history_is_serial, versions_are_good, tables_when_quiet, rewind_restores}
use Rattle.oe_theory.proofs.Theorems.{purge_leaves_later, tests_hold_from_base}
use Rattle.oe_theory.proofs.StepTheorems.{steps_are_counted}
use Rattle.oe_model.specs.System.{system}
use Rattle.oe_model.proofs.SystemLaws.{laws}
use Rattle.oe_model.proofs.versions_are_serial.Goals as goal

pub returns : goal.returns
returns c = record {
  history_is_serial = history_is_serial system laws;
  versions_are_good = versions_are_good system laws;
  quiet_tables = tables_when_quiet system laws;
  rewind_restores = rewind_restores system laws;
  purge_leaves_later = purge_leaves_later system laws;
  steps_are_counted = steps_are_counted system laws;
  tests_hold_from_base = tests_hold_from_base system laws;
}
