use Rattle.std.proofs.Common.{rules, ap, ◌∙◌}
use Rattle.std.specs.Prelude.{is_some, option_map}
use Rattle.oe_rows.proofs.KeyFacts.{warehouse_total, exact_warehouse}
use Rattle.oe_rows.specs.declared.rows.Row.TheVariants as row
use Rattle.oe_model.specs.Changes.{record_in, UpdateWarehouse}
use Rattle.oe_store.proofs.PlaceFacts.{place_of_row}
use Rattle.oe_change.proofs.PlaceFacts.{adds_own}
use Rattle.oe_change.proofs.updates.update_warehouse.Goals as goal

pub returns-clause-applied : goal.returns-clause-applied
returns-clause-applied c = record {
  accepted = search rules;
  changes = c.update_warehouse.ensures.rows;
  before = c.warehouse_record-record.ensures
      ∙ ap (λ v. record_in c.args.layout (UpdateWarehouse c.args.key.now c.args.row) (option_map row.Warehouse v))
      c.in-Some.ensures;
  places = adds_own c.args.tables.now c.update_warehouse.new.self _ c.update_warehouse.ensures.places
      (place_of_row warehouse_total exact_warehouse _ c.args.key.now
      (ap is_some c.update_warehouse.ensures.before));
  names = c.update_warehouse.ensures.names;
}
