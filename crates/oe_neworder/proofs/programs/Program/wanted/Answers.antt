use Rattle.oe_neworder.proofs.programs.Program.wanted.Goals as goal

pub returns-in-Customer : goal.returns-in-Customer
returns-in-Customer c = rw c.in-Customer.is (c.customer_lock.ensures c.in-Customer.field-0 c.in-Customer.field-1
    c.in-Customer.field-2)
