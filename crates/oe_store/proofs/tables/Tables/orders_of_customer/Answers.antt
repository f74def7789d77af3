use Rattle.std.proofs.Common.{refl}
use Rattle.oe_store.proofs.NewestFacts.{own_in}
use Rattle.oe_store.proofs.tables.Tables.orders_of_customer.Goals as goal

pub of_customer-requires : goal.of_customer-requires
of_customer-requires c = own_in c.args.customer.now _ refl _ _
    (rw (c.district_key.ensures, ← c.self.view_is) at c.orders_of-others.ensures)

pub returns : goal.returns
returns c = rw (← c.self.view_is) c.of_customer.ensures
