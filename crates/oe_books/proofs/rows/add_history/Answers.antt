use Rattle.oe_books.specs.Keeping.{BookHistories}
use Rattle.oe_books.proofs.RowFacts.{on_ok, one_more, histories_more}
use Rattle.oe_books.proofs.rows.add_history.Goals as goal

pub returns : goal.returns
returns c =
    on_ok c.add.result (λ takes.
    one_more BookHistories c.args.rows.now (record { kept = c.add.new.self; count = c.count.new.rows }) c.args.fact.now
    c.count.ensures (histories_more c.args.rows.now.kept c.add.new.self c.args.fact.now c.within.ensures takes))
    c.add.ensures
