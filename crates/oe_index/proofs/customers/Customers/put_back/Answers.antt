use Rattle.std.proofs.Common.{◌≡◌, true, subst}
use Rattle.oe_rows.specs.Key.{customer_cmp}
use Rattle.oe_rows.specs.Before.{with_customer}
use Rattle.oe_rows.proofs.KeyFacts.{customer_total, exact_customer}
use Rattle.oe_table.specs.Table.{rows_of, RewritesRow}
use Rattle.oe_index.specs.Listed.{IsListed, AreListed}
use Rattle.oe_index.specs.Numbers.{list_of_name}
use Rattle.oe_index.proofs.FoundFacts.{on_row, row_was, same_row, listed-swap, stands-if}
use Rattle.oe_index.proofs.NameFacts.{listed-before}
use Rattle.oe_index.proofs.customers.Customers.put_back.Goals as goal

rewritten : (c : goal.After-self-2-1) → RewritesRow customer_cmp c.self.inside.rows
    (c.row_mut.follows.lender c.put_on.new.row) c.args.key.now c.put_on.new.row
rewritten c = on_row c.row_mut.result c.unwrap-customer.result c.unwrap-customer.ensures
    (c.row_mut.follows.holds c.put_on.new.row)

listed : (c : goal.After-self-2-1) → AreListed customer_cmp list_of_name true c.self.inside.lists
    (rows_of customer_cmp c.self.inside.rows) → c.is_under_before-stays.result ≡ true
    → IsListed customer_cmp c.self.inside.lists (list_of_name c.args.key.now c.put_on.new.row) c.args.key.now
listed c h on =
    rw c.put_on.ensures
    (listed-before c.args.columns.name.last c.self.inside.lists (rows_of customer_cmp c.self.inside.rows)
    c.args.key.now c.unwrap-customer.result.now (c.is_under_before-stays.ensures.0 on)
    (row_was c.row_mut.result c.unwrap-customer.result c.unwrap-customer.ensures _ c.row_mut.ensures.row) h)

pub invariant_of-self : goal.invariant_of-self
invariant_of-self c =
    rw (c.are_both-self-inside.ensures, (rewritten c).rows)
    (listed-swap customer_total exact_customer list_of_name c.self.inside.is_listed c.is_under_before-stays.result
    c.self.inside.lists (rows_of customer_cmp c.self.inside.rows) c.args.key.now c.put_on.new.row (listed c)
    c.self.invariant)

pub returns-clause-row : goal.returns-clause-row
returns-clause-row c =
    rw (← c.self.view_is)
    (λ x at. subst (λ y. RewritesRow customer_cmp c.self.inside.rows
    (c.row_mut.follows.lender c.put_on.new.row) c.args.key.now (with_customer c.args.columns y))
    (same_row c.row_mut.result c.unwrap-customer.result c.unwrap-customer.ensures _ x c.row_mut.ensures.row at)
    (subst (λ z. RewritesRow customer_cmp c.self.inside.rows (c.row_mut.follows.lender c.put_on.new.row)
    c.args.key.now z) c.put_on.ensures (rewritten c)))

pub returns-clause-stand : goal.returns-clause-stand
returns-clause-stand c =
    rw (← c.self.view_is)
    (stands-if c.self.inside.is_listed c.is_under_before-stays.result _ c.are_both-self-inside.ensures
    c.is_under_before-stays.ensures (λ on h. h) (λ h. h))
