use Rattle.std.proofs.Common.{◌++◌, List, ℕ, ap, ◌∙◌}
use Rattle.oe_model.specs.Population.{last_name}
use Rattle.oe_from.proofs.gaps.put_name.Goals as goal

pub returns-clause-items : goal.returns-clause-items
returns-clause-items c =
    c.text.ensures.items
    ∙ ap (λ (z : List ℕ). c.args.out.now.items ++ z)
    (c.as_bytes.ensures.value ∙ c.as_str.ensures.value ∙ c.name_of-name.ensures ∙ ap last_name c.get.ensures.value)
