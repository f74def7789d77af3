use Rattle.oe_ledgers.specs.Keeping.{KeepsWarehouses}
use Rattle.oe_books.proofs.RowFacts.{on_ok, one_more}
use Rattle.oe_books.proofs.rows.add_warehouse.Goals as goal

pub returns : goal.returns
returns c =
    on_ok c.add.result (λ takes.
    one_more KeepsWarehouses c.args.rows.now (record { kept = c.add.new.self; count = c.count.new.rows })
    c.args.fact.now
    c.count.ensures takes) c.add.ensures
