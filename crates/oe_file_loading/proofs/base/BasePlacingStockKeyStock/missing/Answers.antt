use Rattle.std.proofs.Common.{◌≡◌, Some, [], ◌∷◌, sym, ap, ◌∙◌, refl, rules}
use Rattle.std.specs.FinMap.{get}
use Rattle.oe_rows.specs.declared.keys.Key.TheVariants as key
use Rattle.oe_rows.specs.declared.rows.Row.TheVariants as row
use Rattle.oe_model.specs.Keys.{warehouse_of_stock, item_of_stock}
use Rattle.oe_file_loading.specs.Base.{base_rows}
use Rattle.oe_file_loading.proofs.PlaceFacts.{none_missing, lent_met, lent_lacks}
use Rattle.oe_file_loading.proofs.base.BasePlacingStockKeyStock.missing.Goals as goal

pub returns-then-is_none : goal.returns-then-is_none
returns-then-is_none c =
    let at_1 : c.warehouse_key-warehouse.result ≡ warehouse_of_stock c.args.key.now = search rules in
    let told : c.warehouse_key-warehouse.result ≡ warehouse_of_stock c.args.key.now = search rules in
    ap (λ k. Some (key.Warehouse k)) told
    ∙ sym (lent_lacks row.Warehouse c.get.result _ (c.get.ensures ∙ (λ i. get (base_rows
    (c.self.view_is i)).warehouses (at_1 i))) (key.Warehouse (warehouse_of_stock c.args.key.now)) (key.Item
    (item_of_stock c.args.key.now) ∷ []) (base_rows c.args.self.now) refl
    c.if-is_none.ensures)

pub returns-then-is_none-2 : goal.returns-then-is_none-2
returns-then-is_none-2 c =
    let at_1 : c.warehouse_key-warehouse.result ≡ warehouse_of_stock c.args.key.now = search rules in
    let at_2 : c.item_key-item.result ≡ item_of_stock c.args.key.now = search rules in
    let told : c.item_key-item.result ≡ item_of_stock c.args.key.now = search rules in
    ap (λ k. Some (key.Item k)) told
    ∙ sym (lent_met row.Warehouse c.get.result _ (c.get.ensures ∙ (λ i. get (base_rows
    (c.self.view_is i)).warehouses (at_1 i))) (key.Warehouse (warehouse_of_stock c.args.key.now)) (key.Item
    (item_of_stock c.args.key.now) ∷ []) (base_rows c.args.self.now) refl
    c.if-is_none.ensures
    ∙ lent_lacks row.Item c.get-2.result _ (c.get-2.ensures ∙ (λ i. get (base_rows (c.self.view_is i)).items
    (at_2 i))) (key.Item (item_of_stock c.args.key.now)) ([]) (base_rows c.args.self.now) refl
    c.if-is_none-2.ensures)

pub returns : goal.returns
returns c =
    let at_1 : c.warehouse_key-warehouse.result ≡ warehouse_of_stock c.args.key.now = search rules in
    let at_2 : c.item_key-item.result ≡ item_of_stock c.args.key.now = search rules in
    sym (lent_met row.Warehouse c.get.result _ (c.get.ensures ∙ (λ i. get (base_rows
    (c.self.view_is i)).warehouses (at_1 i))) (key.Warehouse (warehouse_of_stock c.args.key.now))
    (key.Item (item_of_stock c.args.key.now) ∷ []) (base_rows c.args.self.now) refl
    c.if-is_none.ensures
    ∙ lent_met row.Item c.get-2.result _ (c.get-2.ensures ∙ (λ i. get (base_rows (c.self.view_is i)).items
    (at_2 i))) (key.Item (item_of_stock c.args.key.now)) ([]) (base_rows c.args.self.now) refl
    c.if-is_none-2.ensures
    ∙ none_missing (base_rows c.args.self.now))
