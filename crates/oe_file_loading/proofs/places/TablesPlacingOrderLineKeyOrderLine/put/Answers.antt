use Rattle.std.proofs.Common.{[], ◌∷◌, ap, refl}
use Rattle.std.proofs.lemmas.Result.{on_ok_weaker}
use Rattle.oe_rows.proofs.KeyFacts.{order_line_total, exact_order_line}
use Rattle.oe_rows.specs.declared.keys.Key.TheVariants as key
use Rattle.oe_rows.specs.declared.rows.Row.TheVariants as row
use Rattle.oe_model.specs.Keys.{order_of_line, supply_of_line}
use Rattle.std.specs.FinMap.{get}
use Rattle.oe_model.specs.Rows.{Rows}
use Rattle.oe_store.specs.Places.{rows}
use Rattle.oe_file_loading.proofs.PlaceFacts.{absent, met_there, only_put}
use Rattle.oe_file_loading.proofs.places.TablesPlacingOrderLineKeyOrderLine.put.Goals as goal

pub insert_order_line-requires : goal.insert_order_line-requires
insert_order_line-requires c =
    let r : Rows = rows c.args.self.now in
    let there_1 = met_there row.Order (get r.orders (order_of_line c.args.key)) (key.Order (order_of_line
    c.args.key)) (key.Stock (supply_of_line c.args.row) ∷ []) r refl c.requires.met in
    let there_2 = met_there row.Stock (get r.stocks (supply_of_line c.args.row)) (key.Stock (supply_of_line
    c.args.row)) ([]) r refl there_1.1 in
    (absent row.OrderLine (get r.order_lines c.args.key) c.requires.new, there_1.0, there_2.0)

pub returns-clause-only : goal.returns-clause-only
returns-clause-only c =
    on_ok_weaker c.insert_order_line.result
    (λ e. only_put order_line_total exact_order_line row.OrderLine (rows c.args.self.now).order_lines _
    c.args.key c.args.row
    (ap (λ (r : Rows). r.order_lines) e)) c.insert_order_line.ensures.rows
