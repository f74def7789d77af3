use Rattle.oe_rows.specs.Key.{order_cmp}
use Rattle.oe_rows.proofs.KeyFacts.{order_total}
use Rattle.oe_table.specs.Table.{rows_of}
use Rattle.oe_index.specs.Numbers.{list_of_owner}
use Rattle.oe_index.proofs.FoundFacts.{listed-unlist}
use Rattle.oe_index.proofs.orders.Orders.remove.Goals as goal

pub invariant_of-self : goal.invariant_of-self
invariant_of-self c =
    rw c.remove-row.ensures.rows
    (listed-unlist order_total list_of_owner c.self.inside.is_listed c.self.inside.lists c.unlist.new.lists
    (rows_of order_cmp c.self.inside.rows) _ c.args.key.now c.unlist.ensures c.self.invariant)

pub returns-clause-places : goal.returns-clause-places
returns-clause-places c = rw (← c.self.view_is) c.remove-row.ensures.places

pub returns-clause-lists : goal.returns-clause-lists
returns-clause-lists c = rw (← c.self.view_is) c.unlist.ensures
