use Rattle.std.proofs.Common.{◌++◌, codes, sym, ap, ◌∙◌}
use Rattle.oe_reasons.specs.Verbs.{verb_word}
use Rattle.oe_reasons.specs.Texts.{guess_text}
use Rattle.oe_reasons.proofs.JoinFacts.{three}
use Rattle.oe_reasons.proofs.texts.guess.Goals as goal

pub returns-in-Some-clause-items : goal.returns-in-Some-clause-items
returns-in-Some-clause-items c =
    three c.args.out.now.items (codes "; did you mean \"") (verb_word c.in-Some.verb) (codes "\"?") _ _ _
    c.text.ensures.items (c.text-in-Some.ensures.items ∙ ap (λ t. c.text.new.out.items ++ t) c.word.ensures.value)
    c.text-in-Some-2.ensures.items
    ∙ ap (λ n. c.args.out.now.items ++ guess_text n) (sym c.in-Some.is)
