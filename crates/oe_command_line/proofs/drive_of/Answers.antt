use Rattle.std.proofs.Common.{◌≡◌, codes, sym, ◌∙◌, rules, arith}
use Rattle.oe_command_line.proofs.WordFacts.{drives, no_drive}
use Rattle.oe_command_line.proofs.drive_of.Goals as goal

pub returns-in-Some-drive_options_of : goal.returns-in-Some-drive_options_of
returns-in-Some-drive_options_of g c =
    let said : c.as_str.result.now ≡ codes "drive" = search rules in
    let long = c.if-words-lt9.false in
    let options = c.in-Some-drive_options_of.options in
    drives g.S.AsStr.text c.args.words.now c.index-words-1.result c.in-Some.numbers options.commits options.is_busy
    (omega (arith, long)) c.index-words-1.is (sym c.as_str.ensures ∙ said) c.in-Some.ensures.0 c.in-Some.ensures.1
    c.in-Some-drive_options_of.ensures

pub returns-in-None : goal.returns-in-None
returns-in-None g c = no_drive g.S.AsStr.text c.args.words.now c.in-None.ensures
