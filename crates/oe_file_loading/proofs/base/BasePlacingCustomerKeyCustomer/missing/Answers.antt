use Rattle.std.proofs.Common.{◌≡◌, Some, [], sym, ap, ◌∙◌, refl, rules}
use Rattle.std.specs.FinMap.{get}
use Rattle.oe_rows.specs.declared.keys.Key.TheVariants as key
use Rattle.oe_rows.specs.declared.rows.Row.TheVariants as row
use Rattle.oe_model.specs.Keys.{district_of_customer}
use Rattle.oe_file_loading.specs.Base.{base_rows}
use Rattle.oe_file_loading.proofs.PlaceFacts.{none_missing, lent_met, lent_lacks}
use Rattle.oe_file_loading.proofs.base.BasePlacingCustomerKeyCustomer.missing.Goals as goal

pub returns-then-is_none : goal.returns-then-is_none
returns-then-is_none c =
    let at_1 : c.district_key-district.result ≡ district_of_customer c.args.key.now = search rules in
    let told : c.district_key-district.result ≡ district_of_customer c.args.key.now = search rules in
    ap (λ k. Some (key.District k)) told
    ∙ sym (lent_lacks row.District c.get.result _ (c.get.ensures ∙ (λ i. get (base_rows
    (c.self.view_is i)).districts (at_1 i))) (key.District (district_of_customer c.args.key.now)) ([]) (base_rows
    c.args.self.now) refl
    c.if-is_none.ensures)

pub returns : goal.returns
returns c =
    let at_1 : c.district_key-district.result ≡ district_of_customer c.args.key.now = search rules in
    sym (lent_met row.District c.get.result _ (c.get.ensures ∙ (λ i. get (base_rows (c.self.view_is i)).districts
    (at_1 i))) (key.District (district_of_customer c.args.key.now)) ([]) (base_rows c.args.self.now) refl
    c.if-is_none.ensures
    ∙ none_missing (base_rows c.args.self.now))
