use Rattle.std.proofs.Common.{◌++◌, codes, sym, ap, ◌∙◌}
use Rattle.oe_reasons.specs.Columns.{first_word, forms_of}
use Rattle.oe_reasons.specs.Shapes.{either_text}
use Rattle.oe_reasons.specs.Texts.{guess_text, reason_text}
use Rattle.oe_reasons.proofs.JoinFacts.{two, four}
use Rattle.oe_reasons.proofs.texts.tell.Goals as goal

pub returns-in-NoVerb-clause-items : goal.returns-in-NoVerb-clause-items
returns-in-NoVerb-clause-items c =
    four c.args.out.now.items (codes "no form begins with \"") (first_word c.args.line.now) (codes "\"")
    (guess_text c.in-NoVerb.near) _ _ _ _
    c.text-in-NoVerb.ensures.items
    (c.text-in-NoVerb-2.ensures.items ∙ ap (λ t. c.text-in-NoVerb.new.out.items ++ t) c.first_word.ensures.value)
    c.text-in-NoVerb-3.ensures.items c.guess.ensures.items
    ∙ ap (λ r. c.args.out.now.items ++ reason_text c.args.line.now r) (sym c.in-NoVerb.is)

pub returns-in-NotSo-clause-items : goal.returns-in-NotSo-clause-items
returns-in-NotSo-clause-items c =
    two c.args.out.now.items (codes "it is not of the form") (either_text (forms_of c.in-NotSo.verb)) _ _
    c.text-in-NotSo.ensures.items
    (c.either.ensures.items
    ∙ ap (λ fs. c.text-in-NotSo.new.out.items ++ either_text fs) c.forms_of.ensures.value)
    ∙ ap (λ r. c.args.out.now.items ++ reason_text c.args.line.now r) (sym c.in-NotSo.is)
