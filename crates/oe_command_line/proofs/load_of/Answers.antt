use Rattle.std.proofs.Common.{◌≡◌, codes, sym, ◌∙◌, rules, arith}
use Rattle.oe_command_line.proofs.WordFacts.{loads, no_load}
use Rattle.oe_command_line.proofs.load_of.Goals as goal

pub returns-in-Some-loaded : goal.returns-in-Some-loaded
returns-in-Some-loaded g c =
    let said : c.as_str.result.now ≡ codes "load" = search rules in
    let long = c.if-words-lt9.false in
    loads g.S.AsStr.text c.args.words.now c.index-words-1.result c.in-Some.numbers c.in-Some-loaded.options
    (omega (arith, long)) c.index-words-1.is (sym c.as_str.ensures ∙ said) c.in-Some.ensures.0 c.in-Some.ensures.1
    c.in-Some-loaded.ensures

pub returns-in-None : goal.returns-in-None
returns-in-None g c = no_load g.S.AsStr.text c.args.words.now c.in-Some.numbers c.in-Some.ensures.0 c.in-Some.ensures.1
    c.in-None.ensures
