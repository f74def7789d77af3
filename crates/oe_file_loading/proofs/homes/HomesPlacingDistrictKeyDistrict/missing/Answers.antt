use Rattle.std.proofs.Common.{◌≡◌, Some, [], sym, ap, ◌∙◌, refl, rules}
use Rattle.std.specs.FinMap.{get}
use Rattle.oe_rows.specs.declared.keys.Key.TheVariants as key
use Rattle.oe_rows.specs.declared.rows.Row.TheVariants as row
use Rattle.oe_model.specs.Keys.{warehouse_of_district}
use Rattle.oe_file_loading.specs.Homes.{home_rows}
use Rattle.oe_file_loading.proofs.PlaceFacts.{none_missing, lent_met, lent_lacks}
use Rattle.oe_file_loading.proofs.homes.HomesPlacingDistrictKeyDistrict.missing.Goals as goal

pub returns-then-is_none : goal.returns-then-is_none
returns-then-is_none c =
    let at_1 : c.warehouse_key-warehouse.result ≡ warehouse_of_district c.args.key.now = search rules in
    let told : c.warehouse_key-warehouse.result ≡ warehouse_of_district c.args.key.now = search rules in
    ap (λ k. Some (key.Warehouse k)) told
    ∙ sym (lent_lacks row.Warehouse c.get.result _ (c.get.ensures ∙ ap (get (home_rows
    c.args.self.now).warehouses) at_1) (key.Warehouse (warehouse_of_district c.args.key.now)) ([]) (home_rows
    c.args.self.now) refl
    c.if-is_none.ensures)

pub returns : goal.returns
returns c =
    let at_1 : c.warehouse_key-warehouse.result ≡ warehouse_of_district c.args.key.now = search rules in
    sym (lent_met row.Warehouse c.get.result _ (c.get.ensures ∙ ap (get (home_rows
    c.args.self.now).warehouses) at_1) (key.Warehouse (warehouse_of_district c.args.key.now)) ([]) (home_rows
    c.args.self.now) refl
    c.if-is_none.ensures
    ∙ none_missing (home_rows c.args.self.now))
