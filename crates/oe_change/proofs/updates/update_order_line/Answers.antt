use Rattle.std.proofs.Common.{rules, ap, ◌∙◌}
use Rattle.std.specs.Prelude.{is_some, option_map}
use Rattle.oe_rows.proofs.KeyFacts.{order_line_total, exact_order_line}
use Rattle.oe_rows.specs.declared.rows.Row.TheVariants as row
use Rattle.oe_model.specs.Changes.{record_in, UpdateOrderLine}
use Rattle.oe_store.proofs.PlaceFacts.{place_of_row}
use Rattle.oe_change.proofs.PlaceFacts.{adds_own}
use Rattle.oe_change.proofs.updates.update_order_line.Goals as goal

pub returns-clause-applied : goal.returns-clause-applied
returns-clause-applied c = record {
  accepted = search rules;
  changes = c.update_order_line.ensures.rows;
  before = c.order_line_record-record.ensures
      ∙ ap (λ v. record_in c.args.layout (UpdateOrderLine c.args.key.now c.args.row) (option_map row.OrderLine v))
      c.in-Some.ensures;
  places = adds_own c.args.tables.now c.update_order_line.new.self _ c.update_order_line.ensures.places
      (place_of_row order_line_total exact_order_line _ c.args.key.now
      (ap is_some c.update_order_line.ensures.before));
  names = c.update_order_line.ensures.names;
}
