use Rattle.std.proofs.Common.{rules, ap, ◌∙◌}
use Rattle.std.specs.Prelude.{is_some, option_map}
use Rattle.oe_rows.proofs.KeyFacts.{stock_total, exact_stock}
use Rattle.oe_rows.specs.declared.rows.Row.TheVariants as row
use Rattle.oe_model.specs.Changes.{record_in, UpdateStock}
use Rattle.oe_store.proofs.PlaceFacts.{place_of_row}
use Rattle.oe_change.proofs.PlaceFacts.{adds_own}
use Rattle.oe_change.proofs.updates.update_stock.Goals as goal

pub returns-clause-applied : goal.returns-clause-applied
returns-clause-applied c = record {
  accepted = search rules;
  changes = c.update_stock.ensures.rows;
  before = c.stock_record-record.ensures
      ∙ ap (λ v. record_in c.args.layout (UpdateStock c.args.key.now c.args.row) (option_map row.Stock v))
      c.in-Some.ensures;
  places = adds_own c.args.tables.now c.update_stock.new.self _ c.update_stock.ensures.places
      (place_of_row stock_total exact_stock _ c.args.key.now (ap is_some c.update_stock.ensures.before));
  names = c.update_stock.ensures.names;
}
