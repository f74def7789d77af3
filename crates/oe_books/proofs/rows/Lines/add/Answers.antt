use Rattle.oe_books.proofs.RowFacts.{on_ok, lines_more}
use Rattle.oe_books.proofs.rows.Lines.add.Goals as goal

pub returns-clause-kept : goal.returns-clause-kept
returns-clause-kept c =
    on_ok c.add-2.result (lines_more c.args.self.now (record { sums = c.add.new.self; numbers = c.add-2.new.self })
    c.args.fact.now c.within.ensures c.below.ensures c.in_default.ensures.kept) c.add-2.ensures
