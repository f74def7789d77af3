use Rattle.oe_books.specs.Keeping.{BookOrders}
use Rattle.oe_books.proofs.RowFacts.{on_ok, one_more, orders_more}
use Rattle.oe_books.proofs.rows.add_order.Goals as goal

pub returns-clause-kept : goal.returns-clause-kept
returns-clause-kept c =
    on_ok c.add.result (λ takes.
    one_more BookOrders c.args.rows.now (record { kept = c.add.new.self; count = c.count.new.rows }) c.args.fact.now
    c.count.ensures (orders_more c.args.rows.now.kept c.add.new.self c.args.fact.now c.below.ensures takes))
    c.add.ensures.kept
