use Rattle.oe_rows.specs.Key.{customer_cmp}
use Rattle.oe_rows.proofs.KeyFacts.{customer_total, exact_customer}
use Rattle.oe_table.specs.Table.{rows_of}
use Rattle.oe_index.specs.Numbers.{list_of_name}
use Rattle.std.proofs.Common.{inr}
use Rattle.oe_index.proofs.FoundFacts.{listed-swap, stands-if}
use Rattle.oe_index.proofs.NameFacts.{listed-under}
use Rattle.oe_index.proofs.customers.Customers.swap.Goals as goal

pub invariant_of-self : goal.invariant_of-self
invariant_of-self c =
    rw (c.swap.ensures.rows, c.are_both-self-inside.ensures)
    (listed-swap customer_total exact_customer list_of_name c.self.inside.is_listed c.is_under-stays.result
    c.self.inside.lists (rows_of customer_cmp c.self.inside.rows) c.args.key.now c.args.row
    (λ h on. listed-under c.self.inside.lists (rows_of customer_cmp c.self.inside.rows) c.args.key.now
    c.args.row.name.last (c.is_under-stays.ensures.0 on) h) c.self.invariant)

pub returns-clause-places : goal.returns-clause-places
returns-clause-places c = rw (← c.self.view_is) c.swap.ensures.places

pub returns-clause-rows : goal.returns-clause-rows
returns-clause-rows c = rw (← c.self.view_is) c.swap.ensures.rows

pub returns-clause-stand : goal.returns-clause-stand
returns-clause-stand c =
    rw (← c.self.view_is)
    (stands-if c.self.inside.is_listed c.is_under-stays.result _ c.are_both-self-inside.ensures c.is_under-stays.ensures
    (λ on h. listed-under c.self.inside.lists (rows_of customer_cmp c.self.inside.rows) c.args.key.now
    c.args.row.name.last h (λ t k x at. c.self.invariant on k x at)) (λ h. inr h))
