use Rattle.std.proofs.Common.{refl, Some}
use Rattle.oe_rows.specs.Before.{with_customer}
use Rattle.oe_model.specs.Changes.{ChangedCustomer}
use Rattle.oe_store.specs.contracts.tables.Tables.{the_view}
use Rattle.oe_store.proofs.ColumnFacts.{some_row}
use Rattle.oe_store.proofs.BackFacts.{IsBack, customer_back}
use Rattle.oe_store.proofs.tables.Tables.put_back_customer_columns.Goals as goal

left : (c : goal.After-put_back) → IsBack (ChangedCustomer c.args.key (Some c.args.columns)) (the_view c.self.inside)
    (record (the_view c.self.inside) { customers = c.put_back.new.self.places })
left c =
    let there = some_row _ (rw (← c.self.view_is) at c.requires.there) in
    customer_back (the_view c.self.inside) c.put_back.new.self.places c.args.key c.args.columns there.0
    (with_customer c.args.columns there.0) (c.put_back.ensures.row there.0 there.1) refl there.1
    (rw (← c.self.view_is) at c.requires.schema) c.self.invariant

pub invariant_of-self : goal.invariant_of-self
invariant_of-self c = (left c).sound

pub returns-clause-rows : goal.returns-clause-rows
returns-clause-rows c = rw (← c.self.view_is) (left c).rows

pub returns-clause-places : goal.returns-clause-places
returns-clause-places c = rw (← c.self.view_is) (left c).places
