use Rattle.std.proofs.Common.{[], ap, refl}
use Rattle.std.proofs.lemmas.Result.{on_ok_weaker}
use Rattle.oe_rows.proofs.KeyFacts.{new_order_total, exact_new_order}
use Rattle.oe_rows.specs.declared.keys.Key.TheVariants as key
use Rattle.oe_rows.specs.declared.rows.Row.TheVariants as row
use Rattle.oe_model.specs.Keys.{order_of_new_order}
use Rattle.std.specs.FinMap.{get}
use Rattle.oe_model.specs.Rows.{Rows}
use Rattle.oe_store.specs.Places.{rows}
use Rattle.oe_file_loading.proofs.PlaceFacts.{absent, met_there, only_put}
use Rattle.oe_file_loading.proofs.places.TablesPlacingNewOrderKeyNewOrder.put.Goals as goal

pub insert_new_order-requires : goal.insert_new_order-requires
insert_new_order-requires c =
    let r : Rows = rows c.args.self.now in
    let there_1 = met_there row.Order (get r.orders (order_of_new_order c.args.key)) (key.Order
    (order_of_new_order c.args.key)) ([]) r refl c.requires.met in
    (absent row.NewOrder (get r.new_orders c.args.key) c.requires.new, there_1.0)

pub returns-clause-only : goal.returns-clause-only
returns-clause-only c =
    on_ok_weaker c.insert_new_order.result
    (λ e. only_put new_order_total exact_new_order row.NewOrder (rows c.args.self.now).new_orders _ c.args.key
    c.args.row
    (ap (λ (r : Rows). r.new_orders) e)) c.insert_new_order.ensures.rows
