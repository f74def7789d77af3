use Rattle.std.proofs.Common.{◌≡◌, codes, sym, ◌∙◌, rules, arith}
use Rattle.oe_command_line.proofs.WordFacts.{two, named, no_script}
use Rattle.oe_command_line.proofs.script_of.Goals as goal

pub returns-then-words-eq2 : goal.returns-then-words-eq2
returns-then-words-eq2 g c =
    let said : c.as_str.result.now ≡ codes "script" = search rules in
    two g.S.AsStr.text c.args.words.now c.index-words-1.result (search rules) c.index-words-1.is
    (sym c.as_str.ensures ∙ said)

pub returns-in-Some : goal.returns-in-Some
returns-in-Some g c =
    let said : c.as_str.result.now ≡ codes "script" = search rules in
    let long = c.if-words-lt2.false in
    named g.S.AsStr.text c.args.words.now c.index-words-1.result c.in-Some.name (omega (arith, long))
    c.index-words-1.is (sym c.as_str.ensures ∙ said) c.in-Some.ensures

pub returns-in-None : goal.returns-in-None
returns-in-None g c = no_script g.S.AsStr.text c.args.words.now (search rules) c.in-None.ensures
