use Rattle.std.proofs.Common.{◌≡◌, Some, [], ◌∷◌, sym, ap, ◌∙◌, refl, rules}
use Rattle.std.specs.FinMap.{get}
use Rattle.oe_rows.specs.declared.keys.Key.TheVariants as key
use Rattle.oe_rows.specs.declared.rows.Row.TheVariants as row
use Rattle.oe_model.specs.Keys.{order_of_line, supply_of_line}
use Rattle.oe_store.specs.Places.{rows}
use Rattle.oe_file_loading.proofs.PlaceFacts.{none_missing, lent_met, lent_lacks}
use Rattle.oe_file_loading.proofs.places.TablesPlacingOrderLineKeyOrderLine.missing.Goals as goal

pub returns-then-is_none : goal.returns-then-is_none
returns-then-is_none c =
    let at_1 : c.order_key.result ≡ order_of_line c.args.key.now = search rules in
    let told : c.order_key-then-is_none.result ≡ order_of_line c.args.key.now = search rules in
    ap (λ k. Some (key.Order k)) told
    ∙ sym (lent_lacks row.Order c.order.result _ (c.order.ensures ∙ ap (get (rows c.args.self.now).orders) at_1)
    (key.Order (order_of_line c.args.key.now)) (key.Stock (supply_of_line c.args.row.now) ∷ []) (rows
    c.args.self.now) refl
    c.if-is_none.ensures)

pub returns-then-is_none-2 : goal.returns-then-is_none-2
returns-then-is_none-2 c =
    let at_1 : c.order_key.result ≡ order_of_line c.args.key.now = search rules in
    let at_2 : c.supply.result ≡ supply_of_line c.args.row.now = search rules in
    let told : c.supply-then-is_none-2.result ≡ supply_of_line c.args.row.now = search rules in
    ap (λ k. Some (key.Stock k)) told
    ∙ sym (lent_met row.Order c.order.result _ (c.order.ensures ∙ ap (get (rows c.args.self.now).orders) at_1)
    (key.Order (order_of_line c.args.key.now)) (key.Stock (supply_of_line c.args.row.now) ∷ []) (rows
    c.args.self.now) refl
    c.if-is_none.ensures
    ∙ lent_lacks row.Stock c.stock.result _ (c.stock.ensures ∙ ap (get (rows c.args.self.now).stocks) at_2)
    (key.Stock (supply_of_line c.args.row.now)) ([]) (rows c.args.self.now) refl
    c.if-is_none-2.ensures)

pub returns : goal.returns
returns c =
    let at_1 : c.order_key.result ≡ order_of_line c.args.key.now = search rules in
    let at_2 : c.supply.result ≡ supply_of_line c.args.row.now = search rules in
    sym (lent_met row.Order c.order.result _ (c.order.ensures ∙ ap (get (rows c.args.self.now).orders) at_1)
    (key.Order (order_of_line c.args.key.now))
    (key.Stock (supply_of_line c.args.row.now) ∷ []) (rows c.args.self.now) refl
    c.if-is_none.ensures
    ∙ lent_met row.Stock c.stock.result _ (c.stock.ensures ∙ ap (get (rows c.args.self.now).stocks) at_2)
    (key.Stock (supply_of_line c.args.row.now)) ([]) (rows c.args.self.now) refl
    c.if-is_none-2.ensures
    ∙ none_missing (rows c.args.self.now))
