use Rattle.oe_rows.specs.Key.{order_cmp}
use Rattle.oe_rows.proofs.KeyFacts.{order_total, exact_order}
use Rattle.oe_table.specs.Table.{rows_of}
use Rattle.oe_index.specs.Numbers.{list_of_owner}
use Rattle.std.proofs.Common.{sym, ◌∙◌}
use Rattle.oe_index.proofs.FoundFacts.{listed-swap, stands-if}
use Rattle.oe_index.proofs.OwnerFacts.{listed-owner}
use Rattle.oe_index.proofs.orders.Orders.swap.Goals as goal

pub invariant_of-self : goal.invariant_of-self
invariant_of-self c =
    rw (c.swap.ensures.rows, c.are_both-self-inside.ensures)
    (listed-swap order_total exact_order list_of_owner c.self.inside.is_listed c.has_owner-stays.result
    c.self.inside.lists (rows_of order_cmp c.self.inside.rows) c.args.key.now c.args.row
    (listed-owner c.self.inside.lists (rows_of order_cmp c.self.inside.rows) c.args.key.now c.args.row
    c.has_owner-stays.result (rw (← c.self.view_is) at c.has_owner-stays.ensures)) c.self.invariant)

pub returns-clause-places : goal.returns-clause-places
returns-clause-places c = rw (← c.self.view_is) c.swap.ensures.places

pub returns-clause-stand : goal.returns-clause-stand
returns-clause-stand c =
    rw (← c.self.view_is)
    (let told = (rw (← c.self.view_is) at c.has_owner-stays.ensures) in
    stands-if c.self.inside.is_listed c.has_owner-stays.result _ c.are_both-self-inside.ensures
    ((λ h. sym told ∙ h), (λ h. told ∙ h)) (λ on h. h) (λ h. h))
