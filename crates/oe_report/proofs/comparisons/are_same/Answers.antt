use Rattle.std.proofs.Common.{IsTrue, ap, sym, ◌∙◌, rules}
use Rattle.std.specs.FinMap.{entries}
use Rattle.oe_store.specs.Places.{rows}
use Rattle.oe_report.proofs.WalkFacts.{walk_same, nine_walks}
use Rattle.oe_report.proofs.comparisons.are_same.Goals as goal

pub returns : goal.returns
returns c =
    let yes1 : IsTrue c.is_same_walk.result = search (rules, c.if-not-is_same_walk.false) in
    let yes2 : IsTrue c.is_same_walk-2.result = search (rules, c.if-not-is_same_walk-2.false) in
    let yes3 : IsTrue c.is_same_walk-3.result = search (rules, c.if-not-is_same_walk-3.false) in
    let yes4 : IsTrue c.is_same_walk-4.result = search (rules, c.if-not-is_same_walk-4.false) in
    let yes5 : IsTrue c.is_same_walk-5.result = search (rules, c.if-not-is_same_walk-5.false) in
    let yes6 : IsTrue c.is_same_walk-6.result = search (rules, c.if-not-is_same_walk-6.false) in
    let yes7 : IsTrue c.is_same_walk-7.result = search (rules, c.if-not-is_same_walk-7.false) in
    let yes8 : IsTrue c.is_same_walk-8.result = search (rules, c.if-not-is_same_walk-8.false) in (
      (λ yes9. nine_walks (rows c.args.left.now) (rows c.args.right.now)
          (walk_same _ _ _ _ c.is_same_walk.result c.warehouses.ensures c.warehouses-2.ensures c.is_same_walk.ensures
          yes1)
          (walk_same _ _ _ _ c.is_same_walk-2.result c.districts.ensures c.districts-2.ensures c.is_same_walk-2.ensures
          yes2)
          (walk_same _ _ _ _ c.is_same_walk-3.result c.customers.ensures c.customers-2.ensures c.is_same_walk-3.ensures
          yes3)
          (walk_same _ _ _ _ c.is_same_walk-4.result c.histories.ensures c.histories-2.ensures c.is_same_walk-4.ensures
          yes4)
          (walk_same _ _ _ _ c.is_same_walk-5.result c.new_orders.ensures c.new_orders-2.ensures
          c.is_same_walk-5.ensures yes5)
          (walk_same _ _ _ _ c.is_same_walk-6.result c.orders.ensures c.orders-2.ensures c.is_same_walk-6.ensures yes6)
          (walk_same _ _ _ _ c.is_same_walk-7.result c.order_lines.ensures c.order_lines-2.ensures
          c.is_same_walk-7.ensures yes7)
          (walk_same _ _ _ _ c.is_same_walk-8.result c.items.ensures c.items-2.ensures c.is_same_walk-8.ensures yes8)
          (walk_same _ _ _ _ c.is_same_walk-9.result c.stocks.ensures c.stocks-2.ensures c.is_same_walk-9.ensures
          yes9)),
      (λ e. c.is_same_walk-9.ensures.1 (c.stocks.ensures ∙ (ap (λ r. entries r.stocks) e ∙ sym c.stocks-2.ensures))),
    )
