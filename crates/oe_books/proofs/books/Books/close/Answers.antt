use Rattle.std.proofs.Common.{sym, subst, ◌∙◌}
use Rattle.oe_books.specs.Keeping.{IsKnown}
use Rattle.oe_books.specs.Closing.{IsSized}
use Rattle.oe_books.proofs.ClosingFacts.{lack_is, each_few}
use Rattle.oe_books.proofs.books.Books.close.Goals as goal

pub returns-in-Some-clause-closed : goal.returns-in-Some-clause-closed
returns-in-Some-clause-closed c given t h =
    lack_is given t c.args.self c.in-Some.lack (sym c.lack.ensures ∙ c.in-Some.is) h.rows

pub returns-clause-closed : goal.returns-clause-closed
returns-clause-closed c given t h =
    let few = each_few t c.args.self (sym c.lack.ensures ∙ c.in_default.is) h.rows in
    let begun = c.begin.ensures given t h in
    let kept = c.settle.ensures.kept t begun.0 in
    let number = c.settle.new.self.orders.kept.initial in
    let known =
    subst (λ i. IsKnown given t i number) (sym c.settle.ensures.initial)
    (subst (IsKnown given t c.begin.new.self.initial) (sym c.settle.ensures.number) begun.1) in
    let sized =
    subst (IsSized given t number) c.in-Some-customers_each.is
    (c.customers_each.ensures given t kept known few.customers) in (
      record {
        books = kept;
        few = few;
        delivered = c.in-Ok.ensures.sums t.orders t.lines kept.orders.kept.sums kept.lines.kept.sums few.lines
            kept.lines.kept.amounts;
        each = sized.0;
        initial = sized.1;
      },
      record { books = c.settle.ensures.settled; delivered = c.in-Ok.ensures.settled },
    )
