use Rattle.oe_facts.specs.declared.tables.Fact.TheVariants as fact
use Rattle.oe_books.proofs.RowFacts.{on_ok}
use Rattle.oe_books.proofs.TakingFacts.{as_told, customer_taken, order_taken, line_taken}
use Rattle.oe_books.proofs.books.Books.enter.Goals as goal

pub returns-in-Customer : goal.returns-in-Customer
returns-in-Customer c = on_ok c.add_customer.result
    (λ takes given t h.
    as_told given t (record c.args.self.now {
      customers = c.add_customer.new.rows;
      initial = c.behind_customer-self.result;
    }) c.args.fact.now (fact.Customer c.in-Customer.fact) c.in-Customer.is
    (customer_taken given t c.args.self.now c.in-Customer.fact c.add_customer.new.rows
    c.behind_customer-self.result c.behind_customer-self.ensures (takes t.customers h.rows.customers) h))
    c.add_customer.ensures

pub returns-in-Order : goal.returns-in-Order
returns-in-Order c = on_ok c.add_order.result
    (λ takes given t h.
    let begun = c.begin.ensures given t h in
    as_told given t (record c.begin.new.self { orders = c.add_order.new.rows }) c.args.fact.now
    (fact.Order c.in-Order.fact) c.in-Order.is
    (order_taken given t c.begin.new.self c.in-Order.fact c.add_order.new.rows c.add_order.ensures.initial
    (takes t.orders begun.0.orders) begun.0 begun.1))
    c.add_order.ensures.kept

pub returns-in-OrderLine : goal.returns-in-OrderLine
returns-in-OrderLine c = on_ok c.add_line.result
    (λ takes given t h.
    let begun = c.begin-in-OrderLine.ensures given t h in
    as_told given t (record c.begin-in-OrderLine.new.self { lines = c.add_line.new.rows }) c.args.fact.now
    (fact.OrderLine c.in-OrderLine.fact) c.in-OrderLine.is
    (line_taken given t c.begin-in-OrderLine.new.self c.in-OrderLine.fact c.add_line.new.rows
    c.add_line.ensures.initial (takes t.lines begun.0.lines) begun.0 begun.1))
    c.add_line.ensures.kept
