use Rattle.std.proofs.Common.{rules, ap, ◌∙◌}
use Rattle.std.specs.Prelude.{is_some, option_map}
use Rattle.oe_rows.proofs.KeyFacts.{order_total, exact_order}
use Rattle.oe_rows.specs.declared.rows.Row.TheVariants as row
use Rattle.oe_model.specs.Changes.{record_in, UpdateOrder}
use Rattle.oe_store.proofs.PlaceFacts.{place_of_row}
use Rattle.oe_change.proofs.PlaceFacts.{adds_own}
use Rattle.oe_change.proofs.updates.update_order.Goals as goal

pub returns-clause-applied : goal.returns-clause-applied
returns-clause-applied c = record {
  accepted = search rules;
  changes = c.update_order.ensures.rows;
  before = c.order_record-record.ensures
      ∙ ap (λ v. record_in c.args.layout (UpdateOrder c.args.key.now c.args.row) (option_map row.Order v))
      c.in-Some.ensures;
  places = adds_own c.args.tables.now c.update_order.new.self _ c.update_order.ensures.places
      (place_of_row order_total exact_order _ c.args.key.now (ap is_some c.update_order.ensures.before));
  names = c.update_order.ensures.names;
}
