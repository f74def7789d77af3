use Rattle.std.proofs.Common.{◌≡◌, Some}
use Rattle.std.specs.FinMap.{get}
use Rattle.oe_rows.specs.declared.customers.Customer.{Customer}
use Rattle.oe_model.specs.Changes.{UpdateCustomer}
use Rattle.oe_store.specs.Places.{rows}
use Rattle.oe_store.specs.contracts.tables.Tables.{the_view}
use Rattle.oe_store.proofs.ColumnFacts.{IsLeft, customer_left, some_row}
use Rattle.oe_store.proofs.tables.Tables.set_account.Goals as goal

abbrev set : goal.After-set_account → Customer → Customer
set c x = record x { account = c.args.account.now }

left : (c : goal.After-set_account) (x : Customer)
    → get (rows (the_view c.self.inside)).customers c.args.key.now ≡ Some x
    → IsLeft (UpdateCustomer c.args.key.now (set c x)) (the_view c.self.inside)
    (record (the_view c.self.inside) { customers = c.set_account.new.self.places })
left c x was = customer_left (the_view c.self.inside) c.set_account.new.self.places c.args.key.now (set c x) x
    (c.set_account.ensures.row x was) was c.self.invariant

pub invariant_of-self : goal.invariant_of-self
invariant_of-self c = let there = some_row _ (rw (← c.self.view_is) at c.requires) in (left c there.0 there.1).sound

pub returns-clause-rows : goal.returns-clause-rows
returns-clause-rows c = rw (← c.self.view_is) (λ x found. (left c x found).rows)

pub returns-clause-places : goal.returns-clause-places
returns-clause-places c = let there = some_row _ (rw (← c.self.view_is) at c.requires) in
    rw (← c.self.view_is) (left c there.0 there.1).places
