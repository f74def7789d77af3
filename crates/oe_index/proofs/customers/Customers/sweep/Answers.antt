use Rattle.std.proofs.Common.{refl}
use Rattle.oe_index.proofs.customers.Customers.sweep.Goals as goal

pub invariant_of-self : goal.invariant_of-self
invariant_of-self c = rw c.sweep.ensures.rows c.self.invariant

pub returns-clause-places : goal.returns-clause-places
returns-clause-places c = rw (← c.self.view_is) c.sweep.ensures.places

pub returns-clause-lists : goal.returns-clause-lists
returns-clause-lists c = rw (← c.self.view_is) (refl, refl)
