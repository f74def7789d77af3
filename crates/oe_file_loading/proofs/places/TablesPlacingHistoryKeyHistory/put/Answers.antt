use Rattle.std.proofs.Common.{[], ◌∷◌, ap, refl}
use Rattle.std.proofs.lemmas.Result.{on_ok_weaker}
use Rattle.oe_rows.proofs.KeyFacts.{history_total, exact_history}
use Rattle.oe_rows.specs.declared.keys.Key.TheVariants as key
use Rattle.oe_rows.specs.declared.rows.Row.TheVariants as row
use Rattle.std.specs.FinMap.{get}
use Rattle.oe_model.specs.Rows.{Rows}
use Rattle.oe_store.specs.Places.{rows}
use Rattle.oe_file_loading.proofs.PlaceFacts.{absent, met_there, only_put}
use Rattle.oe_file_loading.proofs.places.TablesPlacingHistoryKeyHistory.put.Goals as goal

pub insert_history-requires : goal.insert_history-requires
insert_history-requires c =
    let r : Rows = rows c.args.self.now in
    let there_1 = met_there row.Customer (get r.customers (c.args.row.customer)) (key.Customer
    c.args.row.customer) (key.District c.args.row.district ∷ []) r refl c.requires.met in
    let there_2 = met_there row.District (get r.districts (c.args.row.district)) (key.District
    c.args.row.district) ([]) r refl there_1.1 in
    (absent row.History (get r.histories c.args.key) c.requires.new, there_1.0, there_2.0)

pub returns-clause-only : goal.returns-clause-only
returns-clause-only c =
    on_ok_weaker c.insert_history.result
    (λ e. only_put history_total exact_history row.History (rows c.args.self.now).histories _ c.args.key c.args.row
    (ap (λ (r : Rows). r.histories) e)) c.insert_history.ensures.rows
