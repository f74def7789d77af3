use Rattle.std.proofs.Common.{◌≡◌, ◌-◌, codes, length, take, drop, map, sym, ◌∙◌, rules, arith}
use Rattle.oe_command_line.proofs.WordFacts.{follows_on, no_following, other_numbers}
use Rattle.oe_command_line.proofs.following_of.Goals as goal

pub returns-in-Some-numbers_of : goal.returns-in-Some-numbers_of
returns-in-Some-numbers_of g c =
    let said : c.as_str.result.now ≡ codes "load" = search rules in
    let long = c.if-words-lt2.false in
    follows_on g.S.AsStr.text c.args.words.now c.index-words-1.result c.in-Some.directory
    (map g.S.AsStr.text c.in-Some.rest.now) c.in-Some-numbers_of.following (omega (arith, long)) c.index-words-1.is
    (sym c.as_str.ensures ∙ said) c.in-Some.ensures.0 c.in-Some.ensures.1 c.in-Some-numbers_of.ensures

pub returns-in-None : goal.returns-in-None
returns-in-None g c =
    no_following g.S.AsStr.text c.args.words.now
    (other_numbers (map g.S.AsStr.text (take (length c.args.words.now - 2) (drop 2 c.args.words.now)))
    (map g.S.AsStr.text c.in-Some.rest.now) c.in-Some.directory.now c.in-Some.ensures.1 c.in-None.ensures)
