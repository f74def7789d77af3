use Rattle.std.proofs.Common.{subst}
use Rattle.oe_rows.specs.Key.{customer_cmp}
use Rattle.oe_rows.proofs.KeyFacts.{customer_total, exact_customer}
use Rattle.oe_table.specs.Table.{rows_of, RewritesRow}
use Rattle.oe_model.specs.Rename.{with_names}
use Rattle.oe_index.specs.Numbers.{list_of_name}
use Rattle.oe_index.proofs.FoundFacts.{on_row, same_row, listed-insert, listed-more}
use Rattle.oe_index.proofs.NameFacts.{listed-renamed, other-name}
use Rattle.oe_rows.specs.declared.customers.Customer.{Customer}
use Rattle.oe_index.proofs.customers.Customers.set_names.Goals as goal

abbrev set : goal.After-self-1 → Customer → Customer
set c x = with_names c.args.last.now c.args.first.now x

rewritten : (c : goal.After-self-1) → RewritesRow customer_cmp c.self.inside.rows
    (c.row_mut.follows.lender (set c c.unwrap-customer.result.now)) c.args.key.now (set c c.unwrap-customer.result.now)
rewritten c = on_row c.row_mut.result c.unwrap-customer.result c.unwrap-customer.ensures
    (c.row_mut.follows.holds (set c c.unwrap-customer.result.now))

pub returns-in-Err-clause-renamed : goal.returns-in-Err-clause-renamed
returns-in-Err-clause-renamed c =
    other-name c.args.last.now _ c.requires (rw (← c.self.view_is) c.in-Err.ensures.other)

pub invariant_of-self-2 : goal.invariant_of-self-2
invariant_of-self-2 c =
    rw (c.copied-customer.ensures, c.copied-customer-2.ensures, (rewritten c).rows)
    (listed-insert customer_total exact_customer list_of_name c.self.inside.is_listed c.list_renamed.new.lists
    (rows_of customer_cmp c.self.inside.rows) c.args.key.now (set c c.unwrap-customer.result.now)
    (listed-renamed c.self.inside.is_listed c.self.inside.lists c.list_renamed.new.lists
    (rows_of customer_cmp c.self.inside.rows) c.args.key.now c.args.last.now c.list_renamed.ensures.lists.kept
    c.in_default.ensures.listed c.self.invariant)
    (listed-more list_of_name c.self.inside.is_listed _ _ _ c.list_renamed.ensures.lists.kept c.self.invariant))

pub returns-clause-ok : goal.returns-clause-ok
returns-clause-ok c =
    rw (c.copied-customer.ensures, c.copied-customer-2.ensures, ← c.self.view_is)
    (λ x at. subst (λ y. RewritesRow customer_cmp c.self.inside.rows
    (c.row_mut.follows.lender (set c c.unwrap-customer.result.now)) c.args.key.now (set c y))
    (same_row c.row_mut.result c.unwrap-customer.result c.unwrap-customer.ensures _ x c.row_mut.ensures.row at)
    (rewritten c))

pub returns-in-Err-clause-lists : goal.returns-in-Err-clause-lists
returns-in-Err-clause-lists c = rw (← c.self.view_is) c.list_renamed.ensures.lists

pub returns-clause-lists : goal.returns-clause-lists
returns-clause-lists c = rw (← c.self.view_is) c.list_renamed.ensures.lists

pub returns-clause-listed : goal.returns-clause-listed
returns-clause-listed c =
    listed-renamed c.self.inside.is_listed c.self.inside.lists c.list_renamed.new.lists
    (rows_of customer_cmp c.self.inside.rows) c.args.key.now c.args.last.now c.list_renamed.ensures.lists.kept
    c.in_default.ensures.listed c.self.invariant
