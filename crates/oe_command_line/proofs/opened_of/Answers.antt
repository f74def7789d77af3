use Rattle.std.proofs.Common.{◌≡◌, codes, map, sym, ◌∙◌, rules, arith}
use Rattle.oe_command_line.proofs.WordFacts.{opens}
use Rattle.oe_command_line.proofs.opened_of.Goals as goal

pub returns : goal.returns
returns g c =
    let said : c.as_str.result.now ≡ codes "script" = search rules in
    let long = c.if-words-lt2.false in
    opens g.S.AsStr.text c.args.words.now c.index-words-1.result c.in-Some.directory.now
    (map g.S.AsStr.text c.in-Some.rest.now) c.extents_of.result (omega (arith, long)) c.index-words-1.is
    (sym c.as_str.ensures ∙ said) c.in-Some.ensures.0 c.in-Some.ensures.1 c.extents_of.ensures
