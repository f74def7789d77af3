use Rattle.std.proofs.Common.{rules, ap, ◌∙◌}
use Rattle.std.specs.Prelude.{is_some, option_map}
use Rattle.oe_rows.proofs.KeyFacts.{district_total, exact_district}
use Rattle.oe_rows.specs.declared.rows.Row.TheVariants as row
use Rattle.oe_model.specs.Changes.{record_in, UpdateDistrict}
use Rattle.oe_store.proofs.PlaceFacts.{place_of_row}
use Rattle.oe_change.proofs.PlaceFacts.{adds_own}
use Rattle.oe_change.proofs.updates.update_district.Goals as goal

pub returns-clause-applied : goal.returns-clause-applied
returns-clause-applied c = record {
  accepted = search rules;
  changes = c.update_district.ensures.rows;
  before = c.district_record-record.ensures
      ∙ ap (λ v. record_in c.args.layout (UpdateDistrict c.args.key.now c.args.row) (option_map row.District v))
      c.in-Some.ensures;
  places = adds_own c.args.tables.now c.update_district.new.self _ c.update_district.ensures.places
      (place_of_row district_total exact_district _ c.args.key.now
      (ap is_some c.update_district.ensures.before));
  names = c.update_district.ensures.names;
}
