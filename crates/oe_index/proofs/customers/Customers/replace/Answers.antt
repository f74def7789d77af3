use Rattle.oe_rows.specs.Key.{customer_cmp}
use Rattle.oe_rows.proofs.KeyFacts.{customer_total, exact_customer}
use Rattle.oe_table.specs.Table.{rows_of}
use Rattle.oe_index.specs.Numbers.{list_of_name}
use Rattle.oe_index.proofs.FoundFacts.{listed-insert, listed-more}
use Rattle.oe_index.proofs.NameFacts.{listed-renamed, other-name}
use Rattle.oe_index.proofs.customers.Customers.replace.Goals as goal

pub returns-in-Err-clause-renamed : goal.returns-in-Err-clause-renamed
returns-in-Err-clause-renamed c =
    other-name c.args.row.name.last _ c.requires (rw (← c.self.view_is) c.in-Err.ensures.other)

pub invariant_of-self-2 : goal.invariant_of-self-2
invariant_of-self-2 c =
    rw c.swap.ensures.rows
    (listed-insert customer_total exact_customer list_of_name c.self.inside.is_listed c.list_renamed.new.lists
    (rows_of customer_cmp c.self.inside.rows) c.args.key.now c.args.row
    (listed-renamed c.self.inside.is_listed c.self.inside.lists c.list_renamed.new.lists
    (rows_of customer_cmp c.self.inside.rows) c.args.key.now c.args.row.name.last c.list_renamed.ensures.lists.kept
    c.in_default.ensures.listed c.self.invariant)
    (listed-more list_of_name c.self.inside.is_listed _ _ _ c.list_renamed.ensures.lists.kept c.self.invariant))

pub returns-clause-places : goal.returns-clause-places
returns-clause-places c = rw (← c.self.view_is) c.swap.ensures.places

pub returns-in-Err-clause-lists : goal.returns-in-Err-clause-lists
returns-in-Err-clause-lists c = rw (← c.self.view_is) c.list_renamed.ensures.lists

pub returns-clause-lists : goal.returns-clause-lists
returns-clause-lists c = rw (← c.self.view_is) c.list_renamed.ensures.lists

pub returns-clause-listed : goal.returns-clause-listed
returns-clause-listed c =
    listed-renamed c.self.inside.is_listed c.self.inside.lists c.list_renamed.new.lists
    (rows_of customer_cmp c.self.inside.rows) c.args.key.now c.args.row.name.last c.list_renamed.ensures.lists.kept
    c.in_default.ensures.listed c.self.invariant
