use Rattle.std.proofs.Common.{refl, subst}
use Rattle.oe_rows.specs.Key.{customer_cmp}
use Rattle.oe_rows.specs.declared.customers.Customer.{Customer}
use Rattle.oe_table.specs.Table.{rows_of, RewritesRow}
use Rattle.oe_rows.proofs.KeyFacts.{customer_total, exact_customer}
use Rattle.oe_index.specs.Numbers.{list_of_name}
use Rattle.oe_index.proofs.FoundFacts.{on_row, row_was, same_row, listed-set}
use Rattle.oe_index.proofs.customers.Customers.set_account.Goals as goal

abbrev set : goal.After-self-1 → Customer → Customer
set c x = record x { account = c.args.account.now }

rewritten : (c : goal.After-self-1) → RewritesRow customer_cmp c.self.inside.rows
    (c.row_mut.follows.lender (set c c.unwrap-customer.result.now)) c.args.key.now (set c c.unwrap-customer.result.now)
rewritten c = on_row c.row_mut.result c.unwrap-customer.result c.unwrap-customer.ensures
    (c.row_mut.follows.holds (set c c.unwrap-customer.result.now))

pub invariant_of-self : goal.invariant_of-self
invariant_of-self c =
    rw ((rewritten c).rows)
    (listed-set customer_total exact_customer list_of_name c.self.inside.is_listed c.self.inside.lists
    (rows_of customer_cmp c.self.inside.rows) c.args.key.now c.unwrap-customer.result.now
    (set c c.unwrap-customer.result.now)
    (row_was c.row_mut.result c.unwrap-customer.result c.unwrap-customer.ensures _ c.row_mut.ensures.row) refl
    c.self.invariant)

pub returns-clause-row : goal.returns-clause-row
returns-clause-row c =
    rw (← c.self.view_is)
    (λ x at. subst (λ y. RewritesRow customer_cmp c.self.inside.rows
    (c.row_mut.follows.lender (set c c.unwrap-customer.result.now)) c.args.key.now (set c y))
    (same_row c.row_mut.result c.unwrap-customer.result c.unwrap-customer.ensures _ x c.row_mut.ensures.row at)
    (rewritten c))

pub returns-clause-lists : goal.returns-clause-lists
returns-clause-lists c = rw (← c.self.view_is) (refl, refl)
