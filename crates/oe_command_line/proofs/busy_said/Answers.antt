use Rattle.std.proofs.Common.{◌≡◌, [], ◌∷◌, codes, sym, ap, ◌∙◌, rules}
use Rattle.oe_command_line.proofs.WordFacts.{single}
use Rattle.oe_command_line.proofs.busy_said.Goals as goal

pub returns : goal.returns
returns g c =
    let said : c.as_str.result.now ≡ codes "--busy" = search rules in
    single g.S.AsStr.text c.args.words.now c.index-words-0.result (search rules) c.index-words-0.is
    ∙ ap (λ t. t ∷ []) (sym c.as_str.ensures ∙ said)
