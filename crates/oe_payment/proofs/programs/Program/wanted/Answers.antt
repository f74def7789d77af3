use Rattle.oe_payment.proofs.programs.Program.wanted.Goals as goal

pub returns-in-Customer : goal.returns-in-Customer
returns-in-Customer c = rw (← c.self.view_is, c.in-Customer.is) (c.customer_lock.ensures
    c.self.inside.position.warehouse c.self.inside.position.district)
