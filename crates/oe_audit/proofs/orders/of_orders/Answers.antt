use Rattle.std.proofs.Common.{◌≡◌, refl, sym, ◌∙◌, ap, not, option_map, List}
use Rattle.std.specs.Prelude.{find}
use Rattle.std.specs.FinMap.{entries}
use Rattle.oe_rows.specs.declared.keys.Key.TheVariants as key
use Rattle.oe_rows.specs.declared.keys.OrderKey.{OrderKey}
use Rattle.oe_rows.specs.declared.orders.Order.{Order}
use Rattle.oe_model.specs.Audits.{Verdict, verdict_of, verdict}
use Rattle.oe_model.specs.Rows.{Rows}
use Rattle.oe_store.specs.Places.{rows}
use Rattle.oe_audit.specs.declared.orders.OrderCondition.{OrderCondition}
use Rattle.oe_audit.specs.declared.orders.OrderCondition.TheVariants as of_orders
use Rattle.oe_audit.specs.Walks.{entries_then, passes_order, order_condition}
use Rattle.oe_audit.proofs.StoodFacts.{all_orders_are}
use Rattle.oe_audit.proofs.orders.of_orders.Goals as goal

abbrev verdict_in : OrderCondition → Rows → List (OrderKey × Order) → Verdict
verdict_in n r es = verdict_of key.Order (option_map (λ e. e.0) (find (λ e. not (passes_order n r e.0 e.1)) es))

told_is : (n : OrderCondition) (r : Rows) → verdict_in n r (entries r.orders) ≡ verdict (order_condition n) r
told_is of_orders.Fifth r = refl
told_is of_orders.Sixth r = refl

pub loop-key-init : goal.loop-key-init
loop-key-init g c =
    let t = c.args.then.now in
    let past : Rows = g.R.RowsOf.rows_of t in
    ap (λ (es : List (OrderKey × Order)). verdict_in c.args.condition.now past
    (entries_then (g.R.RowsOf.are_now t) past.orders es))
    (c.into_iter-key-iterator.ensures.into_iter_gives ∙ c.orders-key-items.ensures
    ∙ ap (λ ts. entries (rows ts).orders) c.tables.ensures)
    ∙ ap (verdict_in c.args.condition.now past) (sym (all_orders_are (rows (g.R.RowsOf.tables_of t))
    past (g.R.RowsOf.are_now t) (g.met.R.RowsOf.same t) c.requires))
    ∙ told_is c.args.condition.now past
