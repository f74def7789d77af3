use Rattle.std.proofs.Common.{◌≡◌, true, subst}
use Rattle.oe_rows.specs.Key.{order_cmp}
use Rattle.oe_rows.specs.Before.{with_order}
use Rattle.oe_rows.proofs.KeyFacts.{order_total, exact_order}
use Rattle.oe_table.specs.Table.{rows_of, RewritesRow}
use Rattle.oe_index.specs.Listed.{IsListed, AreListed}
use Rattle.oe_index.specs.Numbers.{list_of_owner}
use Rattle.oe_index.proofs.FoundFacts.{on_row, row_was, same_row, listed-swap, stands-if, none-told}
use Rattle.oe_index.proofs.OwnerFacts.{listed-same_owner}
use Rattle.oe_index.proofs.orders.Orders.put_back.Goals as goal

rewritten : (c : goal.After-self-2-1) → RewritesRow order_cmp c.self.inside.rows
    (c.row_mut.follows.lender c.put_on.new.row) c.args.key.now c.put_on.new.row
rewritten c = on_row c.row_mut.result c.unwrap-order.result c.unwrap-order.ensures
    (c.row_mut.follows.holds c.put_on.new.row)

listed : (c : goal.After-self-2-1) → AreListed order_cmp list_of_owner true c.self.inside.lists
    (rows_of order_cmp c.self.inside.rows) → c.is_none-same_owner.result ≡ true
    → IsListed order_cmp c.self.inside.lists (list_of_owner c.args.key.now c.put_on.new.row) c.args.key.now
listed c h on =
    rw c.put_on.ensures
    (listed-same_owner c.args.columns.customer c.self.inside.lists (rows_of order_cmp c.self.inside.rows)
    c.args.key.now c.unwrap-order.result.now c.is_none-same_owner.result c.is_none-same_owner.ensures
    (row_was c.row_mut.result c.unwrap-order.result c.unwrap-order.ensures _ c.row_mut.ensures.row) h on)

pub invariant_of-self : goal.invariant_of-self
invariant_of-self c =
    rw (c.are_both-self-inside.ensures, (rewritten c).rows)
    (listed-swap order_total exact_order list_of_owner c.self.inside.is_listed c.is_none-same_owner.result
    c.self.inside.lists (rows_of order_cmp c.self.inside.rows) c.args.key.now c.put_on.new.row (listed c)
    c.self.invariant)

pub returns-clause-row : goal.returns-clause-row
returns-clause-row c =
    rw (← c.self.view_is)
    (λ x at. subst (λ y. RewritesRow order_cmp c.self.inside.rows
    (c.row_mut.follows.lender c.put_on.new.row) c.args.key.now (with_order c.args.columns y))
    (same_row c.row_mut.result c.unwrap-order.result c.unwrap-order.ensures _ x c.row_mut.ensures.row at)
    (subst (λ z. RewritesRow order_cmp c.self.inside.rows (c.row_mut.follows.lender c.put_on.new.row)
    c.args.key.now z) c.put_on.ensures (rewritten c)))

pub returns-clause-stand : goal.returns-clause-stand
returns-clause-stand c =
    rw (← c.self.view_is)
    (stands-if c.self.inside.is_listed c.is_none-same_owner.result _ c.are_both-self-inside.ensures
    (none-told c.args.columns.customer c.is_none-same_owner.result c.is_none-same_owner.ensures) (λ on h. h) (λ h. h))
