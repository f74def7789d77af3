use Rattle.std.proofs.Common.{◌++◌, List, ℕ, append_assoc, ap, ◌∙◌}
use Rattle.std.specs.Prelude.{codes}
use Rattle.oe_model.specs.Population.{last_name}
use Rattle.oe_rows.specs.declared.keys.Key.TheVariants as key
use Rattle.oe_texts.specs.Key.{key_text}
use Rattle.oe_from.proofs.gaps.put_absent.Goals as goal

-- the district, the words and the name, one behind another
pub returns-clause-items : goal.returns-clause-items
returns-clause-items c =
    let out = c.args.out.now.items in
    let place = key_text (key.District c.args.district.now) in
    let words = codes ": no customer " in
    c.put_name.ensures.items
    ∙ ap (λ (z : List ℕ). z ++ last_name c.args.number)
    (c.text.ensures.items ∙ (ap (λ (z : List ℕ). z ++ words) c.row.ensures.items ∙ append_assoc out place words))
    ∙ append_assoc out (place ++ words) (last_name c.args.number)
