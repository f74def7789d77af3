use Rattle.std.proofs.Common.{◌≡◌, Some, [], sym, ap, ◌∙◌, refl, rules}
use Rattle.std.specs.FinMap.{get}
use Rattle.oe_rows.specs.declared.keys.Key.TheVariants as key
use Rattle.oe_rows.specs.declared.rows.Row.TheVariants as row
use Rattle.oe_model.specs.Keys.{order_of_new_order}
use Rattle.oe_store.specs.Places.{rows}
use Rattle.oe_file_loading.proofs.PlaceFacts.{none_missing, lent_met, lent_lacks}
use Rattle.oe_file_loading.proofs.places.TablesPlacingNewOrderKeyNewOrder.missing.Goals as goal

pub returns-then-is_none : goal.returns-then-is_none
returns-then-is_none c =
    let at_1 : c.order_key.result ≡ order_of_new_order c.args.key.now = search rules in
    let told : c.order_key-then-is_none.result ≡ order_of_new_order c.args.key.now = search rules in
    ap (λ k. Some (key.Order k)) told
    ∙ sym (lent_lacks row.Order c.order.result _ (c.order.ensures ∙ ap (get (rows c.args.self.now).orders) at_1)
    (key.Order (order_of_new_order c.args.key.now)) ([]) (rows c.args.self.now) refl
    c.if-is_none.ensures)

pub returns : goal.returns
returns c =
    let at_1 : c.order_key.result ≡ order_of_new_order c.args.key.now = search rules in
    sym (lent_met row.Order c.order.result _ (c.order.ensures ∙ ap (get (rows c.args.self.now).orders) at_1)
    (key.Order (order_of_new_order c.args.key.now)) ([]) (rows c.args.self.now) refl
    c.if-is_none.ensures
    ∙ none_missing (rows c.args.self.now))
