use Rattle.oe_theory.proofs.Theorems.{nothing_is_recorded, records_follow, world_has_records, tables_follow}
use Rattle.oe_theory.proofs.Theorems.{undo_forgets, undo_goes_back, base_is_unwound, version_is_unwound, row_is_unwound}
use Rattle.oe_theory.proofs.Theorems.{used_is_of_records, extents_suffice, full_is_full}
use Rattle.oe_theory.proofs.RecordKeys.{row_without_record, records_are_apart}
use Rattle.oe_model.specs.System.{system}
use Rattle.oe_model.proofs.SystemLaws.{laws}
use Rattle.oe_model.proofs.MadeFacts.{records_are_made}
use Rattle.oe_model.proofs.records_bring_back.Goals as goal

pub returns : goal.returns
returns c = record {
  nothing_is_recorded = nothing_is_recorded system laws;
  records_follow = records_follow system laws;
  world_has_records = world_has_records system laws;
  tables_follow = tables_follow system laws;
  undo_forgets = undo_forgets system laws;
  undo_goes_back = undo_goes_back system laws;
  base_is_unwound = base_is_unwound system laws;
  version_is_unwound = version_is_unwound system laws;
  row_is_unwound = row_is_unwound system laws;
  row_without_record = row_without_record system laws;
  records_are_apart = records_are_apart system laws;
  records_are_made = records_are_made;
  used_is_of_records = used_is_of_records system laws;
  extents_suffice = extents_suffice system laws;
  full_is_full = full_is_full system laws;
}
