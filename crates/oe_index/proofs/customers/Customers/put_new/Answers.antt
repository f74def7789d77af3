use Rattle.oe_rows.proofs.KeyFacts.{customer_total, exact_customer}
use Rattle.oe_index.specs.Numbers.{list_of_name}
use Rattle.oe_index.proofs.FoundFacts.{listed-more, listed-put, always_ok}
use Rattle.oe_index.proofs.customers.Customers.put_new.Goals as goal

pub invariant_of-self : goal.invariant_of-self
invariant_of-self c = listed-more list_of_name c.self.inside.is_listed _ _ _ c.list.ensures.lists.kept c.self.invariant

pub invariant_of-self-2 : goal.invariant_of-self-2
invariant_of-self-2 c =
    listed-put customer_total exact_customer list_of_name c.put_new.result c.self.inside.is_listed _ c.self.inside.rows
    c.put_new.new.self c.args.key c.args.row (λ on. c.in_default.ensures.listed)
    (listed-more list_of_name c.self.inside.is_listed _ _ _ c.list.ensures.lists.kept c.self.invariant)
    c.put_new.ensures.rows
    c.put_new.ensures.err

pub returns-clause-ok : goal.returns-clause-ok
returns-clause-ok c = rw (← c.self.view_is) c.put_new.ensures.ok

pub returns-in-Err-clause-lists : goal.returns-in-Err-clause-lists
returns-in-Err-clause-lists c = rw (← c.self.view_is) c.list.ensures.lists

pub returns-clause-lists : goal.returns-clause-lists
returns-clause-lists c = rw (← c.self.view_is) c.list.ensures.lists

pub returns-clause-listed : goal.returns-clause-listed
returns-clause-listed c = always_ok c.put_new.result c.in_default.ensures.listed
