use Rattle.std.proofs.Common.{rules, ap, ◌∙◌, inr}
use Rattle.std.specs.Prelude.{is_some, option_map}
use Rattle.oe_rows.proofs.KeyFacts.{customer_total, exact_customer}
use Rattle.oe_rows.specs.declared.rows.Row.TheVariants as row
use Rattle.oe_model.specs.Changes.{record_in, UpdateCustomer}
use Rattle.oe_store.proofs.PlaceFacts.{place_of_row}
use Rattle.oe_change.proofs.PlaceFacts.{adds_own}
use Rattle.oe_change.proofs.updates.update_customer.Goals as goal

pub returns-in-Ok-clause-applied : goal.returns-in-Ok-clause-applied
returns-in-Ok-clause-applied c = record {
  accepted = search rules;
  changes = c.in-Ok.ensures.rows;
  before = c.customer_record-record.ensures
      ∙ ap (λ v. record_in c.args.layout (UpdateCustomer c.args.key.now c.args.row) (option_map row.Customer v))
      c.in-Some.ensures;
  places = adds_own c.args.tables.now c.update_customer.new.self _ c.update_customer.ensures.places
      (place_of_row customer_total exact_customer _ c.args.key.now (ap is_some c.in-Ok.ensures.before));
  names = inr c.in-Ok.ensures.names;
}
