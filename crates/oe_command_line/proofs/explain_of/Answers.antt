use Rattle.std.proofs.Common.{◌≡◌, codes, sym, ◌∙◌, rules, arith}
use Rattle.oe_command_line.proofs.WordFacts.{explains, explains_file, no_explain}
use Rattle.oe_command_line.proofs.explain_of.Goals as goal

pub returns-then-words-eq3 : goal.returns-then-words-eq3
returns-then-words-eq3 g c =
    let said : c.as_str.result.now ≡ codes "script" = search rules in
    let mark : c.as_str-else-ne.result.now ≡ codes "--explain" = search rules in
    explains g.S.AsStr.text c.args.words.now c.index-words-1.result c.index-words-2.result c.if-words-eq3.true
    c.index-words-1.is (sym c.as_str.ensures ∙ said) c.index-words-2.is (sym c.as_str-else-ne.ensures ∙ mark)

pub returns-in-Some : goal.returns-in-Some
returns-in-Some g c =
    let said : c.as_str.result.now ≡ codes "script" = search rules in
    let mark : c.as_str-else-ne.result.now ≡ codes "--explain" = search rules in
    let long = c.if-words-lt3.false in
    explains_file g.S.AsStr.text c.args.words.now c.index-words-1.result c.index-words-2.result c.in-Some.name
    (omega (arith, long)) c.index-words-1.is (sym c.as_str.ensures ∙ said) c.index-words-2.is
    (sym c.as_str-else-ne.ensures ∙ mark) c.in-Some.ensures

pub returns-in-None : goal.returns-in-None
returns-in-None g c = no_explain g.S.AsStr.text c.args.words.now c.if-words-eq3.false c.in-None.ensures
