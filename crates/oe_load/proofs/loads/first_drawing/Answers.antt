use Rattle.std.proofs.Common.{◌≡◌, ap, ◌∙◌, rules}
use Rattle.oe_terms.specs.Draws.{words_of}
use Rattle.oe_load.proofs.loads.first_drawing.Goals as goal

pub returns-clause-words : goal.returns-clause-words
returns-clause-words c =
    let last : c.unwrap.result ≡ 64 = search rules in
    c.words-words.ensures ∙ ap (words_of c.args.plan.now.numbers.seed) last
