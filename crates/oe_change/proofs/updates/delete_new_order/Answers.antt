use Rattle.std.proofs.Common.{rules, refl, ap}
use Rattle.std.specs.Prelude.{is_some}
use Rattle.oe_rows.proofs.KeyFacts.{new_order_total, exact_new_order}
use Rattle.oe_store.proofs.PlaceFacts.{place_of_row}
use Rattle.oe_change.proofs.PlaceFacts.{adds_own}
use Rattle.oe_change.proofs.UndoFacts.{in_each}
use Rattle.oe_change.proofs.updates.delete_new_order.Goals as goal

pub returns-clause-applied : goal.returns-clause-applied
returns-clause-applied c = in_each _ _ _ _ (λ v. refl) (record {
  accepted = search rules;
  changes = c.delete_new_order-row.ensures.rows;
  before = search rules;
  places = adds_own c.args.tables.now c.delete_new_order-row.new.self _ c.delete_new_order-row.ensures.places
      (place_of_row new_order_total exact_new_order _ c.args.key.now
      (ap is_some c.delete_new_order-row.ensures.before));
  names = c.delete_new_order-row.ensures.names;
})
