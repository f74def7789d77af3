use Rattle.std.proofs.Common.{◌≡◌, Some}
use Rattle.std.specs.FinMap.{get}
use Rattle.oe_rows.specs.Credit.{with_entry}
use Rattle.oe_rows.specs.declared.customers.Customer.{Customer}
use Rattle.oe_model.specs.Changes.{UpdateCustomer}
use Rattle.oe_store.specs.Places.{rows}
use Rattle.oe_store.specs.contracts.tables.Tables.{the_view}
use Rattle.oe_store.proofs.ColumnFacts.{IsLeft, customer_left, some_row}
use Rattle.oe_store.proofs.tables.Tables.set_bad_credit.Goals as goal

abbrev set : goal.After-set_bad_credit → Customer → Customer
set c x = with_entry c.args.account.now c.args.entry.now x

left : (c : goal.After-set_bad_credit) (x : Customer)
    → get (rows (the_view c.self.inside)).customers c.args.key.now ≡ Some x
    → IsLeft (UpdateCustomer c.args.key.now (set c x)) (the_view c.self.inside)
    (record (the_view c.self.inside) { customers = c.set_bad_credit.new.self.places })
left c x was = customer_left (the_view c.self.inside) c.set_bad_credit.new.self.places c.args.key.now (set c x) x
    (c.set_bad_credit.ensures.row x was) was c.self.invariant

pub invariant_of-self : goal.invariant_of-self
invariant_of-self c = let there = some_row _ (rw (← c.self.view_is) at c.requires) in (left c there.0 there.1).sound

pub returns-clause-rows : goal.returns-clause-rows
returns-clause-rows c = rw (← c.self.view_is) (λ x found. (left c x found).rows)

pub returns-clause-places : goal.returns-clause-places
returns-clause-places c = let there = some_row _ (rw (← c.self.view_is) at c.requires) in
    rw (← c.self.view_is) (left c there.0 there.1).places
