use Rattle.std.proofs.Common.{◌++◌, ap, ◌∙◌, List, ℕ}
use Rattle.std.specs.Prelude.{codes, decimal}
use Rattle.std.proofs.lemmas.List.{append_assoc}
use Rattle.oe_io.proofs.output.bad.Goals as goal

pub returns : goal.returns
returns c =
    c.text-2.ensures.items
    ∙ (ap (λ (xs : List ℕ). xs ++ codes "\n")
    (c.decimal.ensures.items ∙ ap (λ (xs : List ℕ). xs ++ decimal c.args.number) c.text.ensures.items)
    ∙ (append_assoc (c.args.out.now.items ++ codes "error 1 BadLine ") (decimal c.args.number) (codes "\n")
    ∙ append_assoc c.args.out.now.items (codes "error 1 BadLine ") (decimal c.args.number ++ codes "\n")))
