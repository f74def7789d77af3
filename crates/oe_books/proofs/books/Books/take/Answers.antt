use Rattle.oe_books.specs.Facts.{with_fact}
use Rattle.oe_books.proofs.RowFacts.{on_ok}
use Rattle.oe_books.proofs.TakingFacts.{told_lost}
use Rattle.oe_books.proofs.books.Books.take.Goals as goal

pub returns-clause-keeps : goal.returns-clause-keeps
returns-clause-keeps c = on_ok c.enter-entered.result
    (λ takes given t h. told_lost given (with_fact t c.args.fact.now) c.enter-entered.new.self _ (takes given t h))
    c.enter-entered.ensures
