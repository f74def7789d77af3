use Rattle.oe_books.specs.Keeping.{BookLines}
use Rattle.oe_books.proofs.RowFacts.{on_ok, one_more}
use Rattle.oe_books.proofs.rows.add_line.Goals as goal

pub returns-clause-kept : goal.returns-clause-kept
returns-clause-kept c =
    on_ok c.add.result (λ takes.
    one_more BookLines c.args.rows.now (record { kept = c.add.new.self; count = c.count.new.rows }) c.args.fact.now
    c.count.ensures takes) c.add.ensures.kept
