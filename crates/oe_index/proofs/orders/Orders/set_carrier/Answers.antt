use Rattle.std.proofs.Common.{refl, subst, Some}
use Rattle.oe_rows.specs.Key.{order_cmp}
use Rattle.oe_rows.proofs.KeyFacts.{order_total, exact_order}
use Rattle.oe_rows.specs.declared.orders.Order.{Order}
use Rattle.oe_table.specs.Table.{rows_of, RewritesRow}
use Rattle.oe_index.specs.Numbers.{list_of_owner}
use Rattle.oe_index.proofs.FoundFacts.{on_row, row_was, same_row, listed-set}
use Rattle.oe_index.proofs.orders.Orders.set_carrier.Goals as goal

abbrev set : goal.After-self-1 → Order → Order
set c x = record x { carrier = Some c.args.carrier }

rewritten : (c : goal.After-self-1) → RewritesRow order_cmp c.self.inside.rows
    (c.row_mut.follows.lender (set c c.unwrap-order.result.now)) c.args.key.now (set c c.unwrap-order.result.now)
rewritten c = on_row c.row_mut.result c.unwrap-order.result c.unwrap-order.ensures
    (c.row_mut.follows.holds (set c c.unwrap-order.result.now))

pub invariant_of-self : goal.invariant_of-self
invariant_of-self c =
    rw ((rewritten c).rows)
    (listed-set order_total exact_order list_of_owner c.self.inside.is_listed c.self.inside.lists
    (rows_of order_cmp c.self.inside.rows) c.args.key.now c.unwrap-order.result.now
    (set c c.unwrap-order.result.now)
    (row_was c.row_mut.result c.unwrap-order.result c.unwrap-order.ensures _ c.row_mut.ensures.row) refl
    c.self.invariant)

pub returns-clause-row : goal.returns-clause-row
returns-clause-row c =
    rw (← c.self.view_is)
    (λ x at. subst (λ y. RewritesRow order_cmp c.self.inside.rows
    (c.row_mut.follows.lender (set c c.unwrap-order.result.now)) c.args.key.now (set c y))
    (same_row c.row_mut.result c.unwrap-order.result c.unwrap-order.ensures _ x c.row_mut.ensures.row at) (rewritten c))

pub returns-clause-lists : goal.returns-clause-lists
returns-clause-lists c = rw (← c.self.view_is) (refl, refl)
