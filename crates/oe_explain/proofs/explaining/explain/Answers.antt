use Rattle.std.proofs.Common.{◌≡◌, ◌++◌, codes, decimal, ap, ◌∙◌, refl}
use Rattle.oe_explain.proofs.SayingFacts.{flushed}
use Rattle.oe_explain.proofs.explaining.explain.Goals as goal

pub returns : goal.returns
returns g c =
    let why = c.tell_why.ensures.items in
    let said : c.text-3.new.out.items
    ≡ codes "line " ++ decimal c.args.number ++ codes ": " ++ why.0 ++ codes "\n" =
    c.text-3.ensures.items ∙ ap (λ z. z ++ codes "\n") (why.2 ∙ ap (λ z. z ++ why.0)
    (c.text-2.ensures.items ∙ ap (λ z. z ++ codes ": ")
    (c.decimal.ensures.items ∙ ap (λ z. z ++ decimal c.args.number)
    (c.text.ensures.items ∙ ap (λ z. z ++ codes "line ") c.new-out.ensures)))) in (
      codes "line " ++ decimal c.args.number ++ codes ": " ++ why.0 ++ codes "\n",
      (why.0, why.1, refl),
      flushed (g.E.Outlet.sink c.args.to.now) (g.E.Outlet.sink c.flush.new.to) c.text-3.new.out.items
          c.flush.new.out.items _ c.flush.result c.flush.ensures.empty said c.flush.ensures.stream,
    )
