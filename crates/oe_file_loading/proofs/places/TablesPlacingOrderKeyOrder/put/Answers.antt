use Rattle.std.proofs.Common.{[], ap, refl}
use Rattle.std.proofs.lemmas.Result.{on_ok_weaker}
use Rattle.oe_rows.proofs.KeyFacts.{order_total, exact_order}
use Rattle.oe_rows.specs.declared.keys.Key.TheVariants as key
use Rattle.oe_rows.specs.declared.rows.Row.TheVariants as row
use Rattle.oe_model.specs.Keys.{customer_of_order}
use Rattle.std.specs.FinMap.{get}
use Rattle.oe_model.specs.Rows.{Rows}
use Rattle.oe_store.specs.Places.{rows}
use Rattle.oe_file_loading.proofs.PlaceFacts.{absent, met_there, only_put}
use Rattle.oe_file_loading.proofs.places.TablesPlacingOrderKeyOrder.put.Goals as goal

pub insert_order-requires : goal.insert_order-requires
insert_order-requires c =
    let r : Rows = rows c.args.self.now in
    let there_1 = met_there row.Customer (get r.customers (customer_of_order c.args.key c.args.row)) (key.Customer
    (customer_of_order c.args.key c.args.row)) ([]) r refl c.requires.met in
    (absent row.Order (get r.orders c.args.key) c.requires.new, there_1.0)

pub returns-clause-only : goal.returns-clause-only
returns-clause-only c =
    on_ok_weaker c.insert_order.result
    (λ e. only_put order_total exact_order row.Order (rows c.args.self.now).orders _ c.args.key c.args.row
    (ap (λ (r : Rows). r.orders) e)) c.insert_order.ensures.rows
