use Rattle.std.proofs.Common.{[], ◌∷◌, sym, ◌∙◌, refl}
use Rattle.oe_rows.specs.declared.keys.Key.TheVariants as key
use Rattle.oe_rows.specs.declared.rows.Row.TheVariants as row
use Rattle.oe_store.specs.Places.{rows}
use Rattle.oe_file_loading.proofs.PlaceFacts.{none_missing, lent_met, lent_lacks}
use Rattle.oe_file_loading.proofs.places.TablesPlacingHistoryKeyHistory.missing.Goals as goal

pub returns-then-is_none : goal.returns-then-is_none
returns-then-is_none c =
    sym (lent_lacks row.Customer c.customer.result _ c.customer.ensures (key.Customer (c.args.row.now.customer))
    (key.District c.args.row.now.district ∷ []) (rows c.args.self.now) refl
    c.if-is_none.ensures)

pub returns-then-is_none-2 : goal.returns-then-is_none-2
returns-then-is_none-2 c =
    sym (lent_met row.Customer c.customer.result _ c.customer.ensures (key.Customer (c.args.row.now.customer))
    (key.District c.args.row.now.district ∷ []) (rows c.args.self.now) refl
    c.if-is_none.ensures
    ∙ lent_lacks row.District c.district.result _ c.district.ensures (key.District (c.args.row.now.district)) ([])
    (rows c.args.self.now) refl
    c.if-is_none-2.ensures)

pub returns : goal.returns
returns c =
    sym (lent_met row.Customer c.customer.result _ c.customer.ensures (key.Customer (c.args.row.now.customer))
    (key.District c.args.row.now.district ∷ []) (rows c.args.self.now) refl
    c.if-is_none.ensures
    ∙ lent_met row.District c.district.result _ c.district.ensures (key.District (c.args.row.now.district)) ([])
    (rows c.args.self.now) refl
    c.if-is_none-2.ensures
    ∙ none_missing (rows c.args.self.now))
