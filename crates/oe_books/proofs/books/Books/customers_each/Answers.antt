use Rattle.oe_books.proofs.InitialFacts.{unsized-late}
use Rattle.oe_books.proofs.books.Books.customers_each.Goals as goal

pub returns-else-counted-each : goal.returns-else-counted-each
returns-else-counted-each c given t h begun few =
    unsized-late given t c.args.self.now.initial c.args.self.now.orders.kept.initial c.unwrap_or-each.result
    c.in-Late.is
    begun few (
      c.customers_of_a_district.result,
      c.customers_of_a_district.ensures t.customers h.customers.kept few,
      c.unwrap_or-each.ensures,
    )
    c.if-counted-each.false
